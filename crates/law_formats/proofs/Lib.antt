pub mod CalmProofs
pub mod BlockProofs
pub mod NumberProofs
pub mod WorkedProofs
