pub mod Changes
pub mod Keeping
pub mod Keys
pub mod Numbers
pub mod Rises
pub mod Stepping
mod Computed
