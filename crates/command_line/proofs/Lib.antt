pub mod Usage
pub mod Numerals
pub mod WidthTexts
pub mod Answering
pub mod Ranges
pub mod PlainWords
pub mod AnyNames
