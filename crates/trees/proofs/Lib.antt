-- The laws of `trees`.
pub mod TreeLaws
pub mod InTurnLaws
pub mod StageLaws
