-- The laws of `profile_lines`.
pub mod PutLaws
