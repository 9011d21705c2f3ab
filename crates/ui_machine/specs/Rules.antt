-- What each part of a step does.
pub mod Ancestry
pub mod Transform
pub mod Validation
pub mod NotifyQueue
pub mod Programs
pub mod MainLoop
pub mod Sets
pub mod Children
pub mod EmissionPlan
pub mod Connections
pub mod Transfers
pub mod Accumulation
pub mod Disposal
pub mod Construction
pub mod Build
pub mod Events
