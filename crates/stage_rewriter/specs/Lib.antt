-- To be read by whoever trusts the contracts: Rewriting and Placing. NearClauses, NearKept and Resting serve private clauses alone.
pub mod Rewriting
pub mod Placing
pub mod NearClauses
pub mod NearKept
pub mod Resting
