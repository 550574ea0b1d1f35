-- The definitions of `phase_times`, to be read beside the Rust.
pub mod Constants
pub mod TimeAllVel
pub mod TimeAcc0Acc1
pub mod TimeAllSingleStep
