-- The definitions of `block_test`.
pub mod Records
pub mod Lines
