-- The definitions of `profile_check`.
pub mod Check
pub mod Accepted
