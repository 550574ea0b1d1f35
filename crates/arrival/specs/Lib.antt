-- The definitions of `arrival`: which times are free for an axis, the earliest that is free for all, the answer, and
-- the steps of the scan.
pub mod Axes
pub mod Arrivals
pub mod Steps
