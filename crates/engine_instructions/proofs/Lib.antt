pub mod Programs
pub mod KnownCode
mod Jumping
mod Starting
mod Tested
mod PropertySteps
mod ObjectSteps
mod Adopting
mod Pushed
mod Disposing
mod Connections
mod StoppedEmissions
mod ConnectSteps
mod Collecting
mod Returning
mod Calling
pub mod Whole
pub mod Creating
mod SourceSteps
mod Unbinding
mod PeerCalls
mod Holding
pub mod LinkedNames
