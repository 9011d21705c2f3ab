pub mod WorkedRuns
pub mod CornerRuns
pub mod StuckRuns
pub mod PlayLaw
