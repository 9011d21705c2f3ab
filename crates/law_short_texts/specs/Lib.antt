pub mod ShortValues
pub mod ShortTexts
pub mod WorkedTexts
