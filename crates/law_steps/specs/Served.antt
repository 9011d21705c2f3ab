pub mod Replies
pub mod Endings
pub mod Dispatches
pub mod Sessions
pub mod NeverStuck
pub mod Safe
pub mod Halting
pub mod WorkedSession
