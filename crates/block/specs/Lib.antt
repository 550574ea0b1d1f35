-- The definitions of `block`: plans, selection, what is said of them, and a profile for examples.
pub mod Blocks
pub mod Selection
pub mod Steps
pub mod Plans
pub mod Examples
