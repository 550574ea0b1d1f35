-- The fields of a double's bit pattern, and what an order of two numbers says.
pub mod Fields
pub mod Comparison
