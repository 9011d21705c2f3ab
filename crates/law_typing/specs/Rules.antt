-- The rules that programs, handlers and bindings are judged by.
pub mod RegisterKinds
pub mod Answers
pub mod Signatures
pub mod Typing
pub mod Faults
pub mod Sites
pub mod Handlers
pub mod BindingRules
pub mod Brackets
