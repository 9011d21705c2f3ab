pub mod Rules
pub mod Graph
pub mod Verdict
pub mod Laws
pub mod Examples
pub mod Good
