-- To be read by whoever trusts the contracts: `Refutations`, `Refuting` and `Beginnings`.
pub mod Refutations
pub mod Refuting
pub mod Beginnings
