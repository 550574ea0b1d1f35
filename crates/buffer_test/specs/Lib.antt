-- The definitions of `buffer_test`.
pub mod Records
pub mod Lines
