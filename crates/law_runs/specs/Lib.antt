pub mod Living
pub mod Meanings
pub mod Stacks
pub mod Identities
pub mod Kin
pub mod Handlers
