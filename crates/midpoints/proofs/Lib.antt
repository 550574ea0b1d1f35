-- Laws of the certificates.
pub mod CubicLaws
pub mod SexticLaws
