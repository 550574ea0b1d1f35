-- The laws of `moves`.
pub mod CountLaws
pub mod Putting
pub mod RecordLaws
