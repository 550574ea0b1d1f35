-- Laws of `search`.
pub mod FoundLaws
pub mod PlaceLaws
