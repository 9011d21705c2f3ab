pub mod OverrideView
pub mod EnumDrafts
pub mod HandlerDrafts
pub mod ImplementDrafts
pub mod Drafted
pub mod OwnParts
pub mod SignalNames
pub mod HeirTypes
