-- To be read by whoever trusts the contracts: Reducing. Gathering says what the loop over a plan's steps keeps, Keys how gates are sorted: they serve
-- private clauses alone.
pub mod Gathering
pub mod Keys
pub mod Reducing
