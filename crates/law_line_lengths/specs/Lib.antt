pub mod LineLengths
pub mod StepLines
pub mod DispatchBytes
pub mod WorkedLines
