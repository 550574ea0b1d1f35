-- The definitions of `shop_checks`: document 01's ● lines as one table, and worked moves and records beside it.
pub mod Records
pub mod ShopChecks
pub mod WorkedMoves
