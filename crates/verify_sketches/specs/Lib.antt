pub mod Pointwise
pub mod Sketches
pub mod Numbered
pub mod View
pub mod Sizes
