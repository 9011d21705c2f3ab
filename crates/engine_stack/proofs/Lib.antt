pub mod Lists
pub mod BuildTasks
pub mod FirstPrograms
pub mod FirstEmissions
pub mod FirstConstructions
pub mod Vectors
pub mod StopsBelow
pub mod ListedFrames
