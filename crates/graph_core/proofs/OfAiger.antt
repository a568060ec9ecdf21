-- Lemmas on AIGER files: what is read, refused and written. Crates above import CallerLemmas alone.
pub mod CallerLemmas
pub mod Bodies
pub mod Fields
pub mod GivenWidths
pub mod Packed
pub mod PlacedGates
pub mod Readers
mod ReadingRows
pub mod Refusals
pub mod Rests
pub mod Rows
pub mod SoundLists
pub mod SpelledSizes
pub mod Tail
pub mod Writing
