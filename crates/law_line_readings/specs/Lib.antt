pub mod LineReadings
