-- How what is used is found and renumbered, and then what a trimmed pair is.
pub mod KeptLines
pub mod Marking
pub mod MarkedRoots
pub mod KeptClauses
pub mod PacOperands
pub mod KeptAlgebra
pub mod UsedLines
pub mod Renumbering
pub mod Ranks
pub mod TrimmedClauses
pub mod Parts
pub mod Choices
pub mod NewPair
pub mod Trims
pub mod HeldPairs
