pub mod CallsMet
pub mod GatheringMet
