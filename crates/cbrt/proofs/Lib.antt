-- Laws of the cube root.
pub mod Roots
pub mod Signs
