-- The definitions of `trees`: a computation by the questions that it asks, and questions asked in turn.
pub mod Tree
pub mod InTurn
pub mod Stages
