-- The definitions of `decimals`.
pub mod Decimal
