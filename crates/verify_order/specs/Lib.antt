pub mod Graphs
pub mod Kept
pub mod Searches
pub mod Answers
pub mod Chains
pub mod Numbers
