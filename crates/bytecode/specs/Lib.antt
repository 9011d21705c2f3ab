pub mod Computing
pub mod View
pub mod Shape
pub mod Known
pub mod Reading
