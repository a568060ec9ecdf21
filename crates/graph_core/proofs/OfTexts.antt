-- Lemmas on lines, numerals and first refusals. Crates above import CallerLemmas alone.
pub mod CallerLemmas
pub mod FirstRefusal
pub mod JudgedLines
pub mod Lines
pub mod Newlines
pub mod NumeralReading
pub mod Numerals
pub mod Shown
pub mod Steady
pub mod Steps
pub mod TextReaders
