-- The laws of `doubles`.
pub mod CondLaws
pub mod SignedLaws
pub mod RoundLaws
pub mod ValueLaws
pub mod OperationLaws
pub mod OrderLaws
pub mod DifferenceLaws
pub mod SumLaws
pub mod IntegerLaws
pub mod ErrorChain
pub mod DoubleLaws
pub mod FunctionLaws
pub mod ComparisonLaws
pub mod UnsignedLaws
pub mod SumOrderLaws
