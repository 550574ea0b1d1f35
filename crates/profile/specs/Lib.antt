-- The definitions of `profile`.
pub mod Tolerances
pub mod Names
pub mod Limits
pub mod Boundary
pub mod With
pub mod Layout
