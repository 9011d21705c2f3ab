pub mod Bells
pub mod Numbers
pub mod Texts
