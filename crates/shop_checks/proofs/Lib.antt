-- The proofs of `shop_checks`.
pub mod ShopChecks
pub mod MovingAnswers
pub mod Passing
pub mod Turning
pub mod WorkedMoves
pub mod RefusedRecords
