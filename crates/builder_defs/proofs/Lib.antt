pub mod Words
pub mod OneMember
pub mod EachOf
pub mod CodeNames
pub mod PlaceLists
pub mod Whole
mod EventsRead
pub mod PlainEvents
