-- The definitions of `planner`: a move's layout, which moves are turned back, the answer to a move, what is promised of
-- it, and plans as the axes of a move.
pub mod Layout
pub mod Answers
pub mod Promise
pub mod Arrival
