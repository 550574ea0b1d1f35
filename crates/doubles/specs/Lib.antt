-- The definitions of `doubles`: first what formulas are written with, then exact values, in
-- which rounding errors are stated.
pub mod Operators
pub mod Constants
pub mod Functions
pub mod Splitting
pub mod Guess
pub mod Exact
pub mod Signed
pub mod Value
pub mod Error
