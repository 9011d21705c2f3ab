-- What the machine has of objects and of all that is attached to them, and the configuration that it is in.
pub mod Objects
pub mod Handlers
pub mod Tasks
pub mod Bindings
pub mod Sources
pub mod Peers
pub mod Config
pub mod References
