pub mod TurnMet
