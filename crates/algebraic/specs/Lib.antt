-- The definitions that the contracts of `algebraic` cite.
pub mod Forms
pub mod Reals
