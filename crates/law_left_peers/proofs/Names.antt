pub mod PlainNames
pub mod PlainPlaces
