-- The definitions that the contracts of `midpoints` cite.
pub mod Cubic
pub mod Sextic
