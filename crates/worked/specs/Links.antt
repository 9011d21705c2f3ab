pub mod LinkedCalls
pub mod LinkedGathering
