pub mod PartsView
pub mod EntryView
pub mod ClassNames
