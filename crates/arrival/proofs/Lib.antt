-- The laws of `arrival`. Those for users: ArrivalLaws.
pub mod ScanLaws
pub mod ArrivalLaws
