-- The elementary functions on doubles. In a reader's order: what nearest means, the four reals, the functions.
pub mod Nearest
pub mod Reals
pub mod Functions
pub mod Binade
