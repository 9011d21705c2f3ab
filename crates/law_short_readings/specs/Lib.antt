pub mod ShortReadings
