-- The laws of `position_third_step1`.
pub mod SlotLaws
pub mod FamilyLaws
pub mod FamilyTries
pub mod RootLaws
pub mod CountLaws
pub mod OrderLaws
