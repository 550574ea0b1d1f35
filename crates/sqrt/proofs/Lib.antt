-- The laws that the proofs of `sqrt` cite.
pub mod DigitRecurrence
pub mod RootPattern
pub mod Verdicts
pub mod Excess
pub mod Specials
