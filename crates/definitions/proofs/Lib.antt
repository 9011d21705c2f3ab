pub mod Ids
pub mod ClassHandlers
pub mod ShapeLines
pub mod SlotPlaces
pub mod ClassNames
pub mod HandlerNames
pub mod Spelled
