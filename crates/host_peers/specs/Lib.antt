pub mod Screens
pub mod Stock
pub mod Tallies
pub mod StockedPools
