-- The laws of `plan_buffer`.
pub mod StoreLaws
pub mod LayoutLaws
pub mod AnswerLaws
