-- The definitions of `get_profile`: families put one after the other, the calls of a search, and which of them are
-- tried.
pub mod Families
pub mod Calls
pub mod GetProfile
pub mod Answered
