-- Laws of `get_profile`.
pub mod FamiliesLaws
pub mod OrderLaws
pub mod WayLaws
pub mod StageTie
pub mod CallLaws
pub mod SearchLaws
pub mod AnswerLaws
pub mod CheckCounts
pub mod AskLaws
pub mod RefusalLaws
