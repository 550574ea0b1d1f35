-- The laws of `buffer_test`.
pub mod BufferLaws
