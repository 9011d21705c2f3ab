pub mod ShortParts
pub mod ShortLines
pub mod WorkedLines
