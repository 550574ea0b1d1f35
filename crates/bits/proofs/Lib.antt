-- Laws of a double's bit pattern, and what comparing two whole numbers says.
pub mod Patterns
pub mod Normalize
pub mod Comparison
