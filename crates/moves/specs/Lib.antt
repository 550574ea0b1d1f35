-- The definitions of `moves`: what a record's bytes mean, the lines of text, and which bytes answer a record.
pub mod Records
pub mod Lines
pub mod Replies
