-- Lemmas on premises that are the same, and on pairs that were written. Crates above import CallerLemmas alone.
pub mod SamePremises
pub mod WrittenPairs
pub mod CallerLemmas
