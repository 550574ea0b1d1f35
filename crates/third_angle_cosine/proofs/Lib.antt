-- Laws of the cosine.
pub mod Sides
pub mod Rounding
