-- The definitions of `families_test`.
pub mod Records
pub mod Lines
