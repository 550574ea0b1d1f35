-- The laws of `encoding`.
pub mod Laws
