pub mod OrdersAgree
pub mod SumBound
pub mod SumNarrow
pub mod SumWidth
pub mod WeightLaws
pub mod WeightedSum
