-- The definitions of `roots`.
pub mod List
pub mod Reading
pub mod Resolvent
pub mod Quartic
pub mod Steps
