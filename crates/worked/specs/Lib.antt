pub mod Laws
pub mod Links
pub mod Sessions
