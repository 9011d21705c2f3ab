pub mod Covering
pub mod Sizes
pub mod SketchedCode
pub mod Tables
pub mod Triggers
