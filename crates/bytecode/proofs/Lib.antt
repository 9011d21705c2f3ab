pub mod BlockShapes
pub mod ViewedLists
