-- Laws of the argument.
pub mod Near
pub mod Values
pub mod Cases
