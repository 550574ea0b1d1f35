-- The laws of `profile_check`.
pub mod CheckLaws
pub mod Accepted
