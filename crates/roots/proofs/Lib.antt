-- The laws of `roots`.
pub mod Constants
pub mod Placing
pub mod Sorting
pub mod Reading
pub mod ResolventLaws
pub mod CubeRoot
pub mod QuarticLaws
pub mod Values
