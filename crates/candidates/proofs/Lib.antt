-- The laws of `candidates`.
pub mod CheckLaws
pub mod SlotLaws
pub mod CountLaws
pub mod BoundaryLaws
