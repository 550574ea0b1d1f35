-- The definitions that the contracts of `third_angle_cosine` cite, besides the function's own in `elementary`.
pub mod Scaled
pub mod Certificate
