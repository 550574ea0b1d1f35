-- The laws of `profile`, and worked examples. Each function's proof has a folder of its own.
pub mod LayoutLaws
pub mod MachineLaws
pub mod Examples
pub mod SwapLaws
