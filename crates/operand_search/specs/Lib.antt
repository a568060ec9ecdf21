-- All serve private clauses alone: what the search promises is in the words of the crates below.
pub mod Enumeration
pub mod Lanes
pub mod Numbers
pub mod Runs
