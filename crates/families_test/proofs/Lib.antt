-- The laws of `families_test`.
pub mod ListLaws
pub mod StageLaws
