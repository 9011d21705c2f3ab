pub mod Laws
pub mod Numbers
pub mod Links
pub mod Sessions
