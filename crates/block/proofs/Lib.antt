-- The laws of `block`. Those for whole plans: MemberLaws, StretchLaws, LeastLaws, AfterLaws, RefusalLaws.
pub mod AlikeLaws
pub mod DirectionLaws
pub mod FastestLaws
pub mod SelectionLaws
pub mod ArrayLaws
pub mod MemberLaws
pub mod StretchLaws
pub mod LeastLaws
pub mod AfterLaws
pub mod RefusalLaws
pub mod BlockingLaws
pub mod Examples
