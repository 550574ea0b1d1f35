-- The definitions of `phase_times_quartic`, to be read beside the Rust.
pub mod Quartic
pub mod RootRange
pub mod TimeNone
pub mod TimeAcc0
pub mod TimeAcc1
pub mod CorrectionAcc1
