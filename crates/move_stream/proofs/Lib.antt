-- Laws of `move_stream`.
pub mod BatchLaws
pub mod PieceLaws
