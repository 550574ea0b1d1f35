-- The definitions of `replies_test`.
pub mod Lines
