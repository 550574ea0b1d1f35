-- The definitions of `search`: by which conditions families and directions are chosen, and the stages of a move.
pub mod Choices
pub mod Stages
