-- The definitions of `candidates`: a try that the check judges, and the list of accepted profiles.
pub mod Try
pub mod List
pub mod Counted
