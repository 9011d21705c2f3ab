pub mod Views
pub mod Turns
pub mod OutermostValues
pub mod LastMembers
