-- The definitions of `replay`: what document 01's "Replay" and "Rounding allowance" say, and what is promised of an
-- accepted profile.
pub mod Replay
pub mod Allowance
pub mod Promise
pub mod StoredLimits
