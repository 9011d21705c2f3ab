pub mod Alone
pub mod Handling
pub mod KeptSome
pub mod KeptValues
pub mod LooseValues
pub mod Padding
pub mod Streams
pub mod Telling
pub mod LineParts
pub mod Parts
mod Limits
mod Keeping
