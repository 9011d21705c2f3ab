pub mod Busy
pub mod ChannelView
pub mod Makings
pub mod Numbering
pub mod Numbers
pub mod Paired
pub mod Pairs
