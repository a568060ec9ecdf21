-- Private clauses alone cite it.
pub mod Pairs
