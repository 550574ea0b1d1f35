-- The definitions of `arrival_test`.
pub mod Lines
