-- Examples of the definitions of `phase_times_quartic`.
pub mod Examples
