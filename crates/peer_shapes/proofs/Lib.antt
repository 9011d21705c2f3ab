pub mod NamedEntries
pub mod MethodNames
