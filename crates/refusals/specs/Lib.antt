-- The definitions of `refusals`.
pub mod Numbers
