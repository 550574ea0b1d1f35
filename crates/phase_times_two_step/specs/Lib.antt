-- The definitions of `phase_times_two_step`, to be read beside the Rust.
pub mod ScaledRoot
pub mod TimeNoneTwoStep
pub mod TimeAcc0TwoStep
pub mod TimeVelTwoStep
pub mod TimeAcc1VelTwoStep
