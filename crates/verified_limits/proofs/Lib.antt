pub mod Bounded
mod Busy
