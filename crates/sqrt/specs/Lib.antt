-- The definitions that the contracts of `sqrt` cite, besides the function's own in `elementary`.
pub mod Candidate
pub mod Roots
pub mod Verdicts
