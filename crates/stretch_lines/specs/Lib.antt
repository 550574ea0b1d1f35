-- The definitions of `stretch_lines`.
pub mod Kinds
