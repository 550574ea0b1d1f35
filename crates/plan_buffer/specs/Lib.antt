-- The definitions of `plan_buffer`: a plan as doubles, and what is answered of a move and a plan in buffers.
pub mod Layout
pub mod Steps
pub mod Buffers
