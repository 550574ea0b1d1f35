-- The laws of `refusals`.
pub mod NumberLaws
