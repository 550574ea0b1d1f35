-- Laws and theorems of the elementary functions.
pub mod Order
pub mod Bracket
pub mod Nearest
pub mod Fractions
pub mod Roots
pub mod Cosine
pub mod Sine
pub mod Pythagoras
pub mod Binade
pub mod Theorems
pub mod Values
