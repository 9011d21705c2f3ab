mod Beginning
mod Ending
mod InOrder
mod InParts
mod Served
mod TakenProofs
mod Forgetting
mod Widths
pub mod Slices
pub mod Limits
