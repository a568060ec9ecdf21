-- `Positions` serves private clauses alone: what `least` promises is in the words of the crates below.
pub mod Positions
