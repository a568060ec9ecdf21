-- To be trusted by whoever reads the contract of `trim`: `Trimming`, and `NewPairs` for what is kept. `KeptLines` says what is left of an
-- algebra certificate, `Marking` which clauses are kept, `Lines` which lines, and `Trimmed` why a pair of both is lawful again. `Choosing`
-- serves private clauses alone.
pub mod KeptLines
pub mod Marking
pub mod Lines
pub mod Trimmed
pub mod NewPairs
pub mod Trimming
pub mod Choosing
