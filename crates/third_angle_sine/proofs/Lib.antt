-- Laws of the sine.
pub mod Rounding
pub mod Quotients
pub mod Sides
pub mod Outer
pub mod Inner
