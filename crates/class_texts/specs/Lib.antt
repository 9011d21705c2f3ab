pub mod Lists
pub mod Kinds
pub mod Flags
pub mod Owners
pub mod ClassTexts
