-- The laws of `replay`.
pub mod ExactMotion
pub mod RowErrors
pub mod PhaseErrors
pub mod AccumulatedErrors
pub mod DurationBound
pub mod Underflow
pub mod IntegerReplay
pub mod TargetDistance
pub mod ReplayBound
pub mod CheckedReplay
pub mod ExampleProfiles
pub mod Move2
pub mod StoredLimits
pub mod WorkedNumbers
