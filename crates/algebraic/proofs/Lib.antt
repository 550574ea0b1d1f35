-- Laws of algebraic numbers.
pub mod Forms
pub mod Orderings
