pub mod Needing
