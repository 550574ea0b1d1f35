-- The definitions of `roots_test`.
pub mod Lines
