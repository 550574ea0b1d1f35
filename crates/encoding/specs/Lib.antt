-- The definitions that the contracts of `encoding` cite.
pub mod Encoding
