-- The definitions of `elementary_test`.
pub mod Lines
