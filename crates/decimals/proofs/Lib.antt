-- The laws of `decimals`.
pub mod DecimalLaws
