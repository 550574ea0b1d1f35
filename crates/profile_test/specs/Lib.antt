-- The definitions of `profile_test`.
pub mod Records
pub mod Lines
