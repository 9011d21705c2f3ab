pub mod FirstRules
pub mod FirstGraph
pub mod FirstCosts
pub mod FirstFormat
pub mod SameNumbers
pub mod WorkedBefore
