-- The definitions that the contracts of `cbrt` cite, besides the function's own in `elementary`.
pub mod Candidate
pub mod Certificate
