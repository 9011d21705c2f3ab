-- What the machine says.
pub mod Lines
pub mod Text
