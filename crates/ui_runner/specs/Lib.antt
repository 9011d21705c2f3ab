pub mod CommandLine
pub mod StockedRuns
