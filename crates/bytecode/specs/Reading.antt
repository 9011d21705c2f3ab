-- How JSON denotes programs.
pub mod Views
pub mod Each
pub mod KindWords
pub mod Operands
pub mod Scopes
pub mod OperandShapes
pub mod RegisterRows
pub mod ObjectRows
pub mod SignalRows
pub mod SourceRows
pub mod JumpRows
pub mod Words
pub mod RegisterKinds
pub mod OutlineFaults
pub mod Outline
pub mod Programs
