-- The definitions that the contracts of `third_angle_sine` cite, besides the function's own in `elementary`.
pub mod Factors
