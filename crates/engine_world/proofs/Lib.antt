pub mod LivingObjects
pub mod NewObjects
pub mod Floats
mod Strings
pub mod Kin
mod SpecAt
pub mod Left
mod Marks
pub mod Finalising
pub mod Counts
pub mod Quiets
pub mod Notified
pub mod Parts
pub mod SourceCounts
pub mod Details
mod Values
pub mod Emits
pub mod Registers
mod Operands
pub mod Built
pub mod Gone
pub mod Held
pub mod Named
pub mod GotPeers
pub mod PeerNumbers
pub mod SameTurns
pub mod Signals
pub mod RoomLeft
pub mod Rooms
pub mod HandlerAdded
pub mod Prototypes
pub mod Dispose
pub mod Building
pub mod MakingSteps
mod ConstructedRuns
pub mod Forwarded
pub mod SeatedPeers
mod PlainKinds
mod ClosedPeers
pub mod Ableness
pub mod FirstPrograms
pub mod FirstEmissions
pub mod FirstConstructions
pub mod Begun
pub mod OtherFirst
