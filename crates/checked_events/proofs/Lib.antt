pub mod EachView
pub mod Emitting
pub mod KnownKinds
pub mod Zipping
