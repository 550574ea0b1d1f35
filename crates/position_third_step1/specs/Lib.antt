-- The definitions of `position_third_step1`: each family by the tries that it makes, in the Rust's order.
pub mod CheckTree
pub mod Slots
pub mod TimeAllVel
pub mod TimeAcc0Acc1
pub mod TwoStep
pub mod TimeAllNoneAcc0Acc1
pub mod TimeAllSingleStep
pub mod Families
pub mod Order
