-- The definitions that the contracts of `profile_lines` cite.
pub mod Text
pub mod Fields
