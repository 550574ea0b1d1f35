-- The definitions of `profile_rows`.
pub mod Rows
