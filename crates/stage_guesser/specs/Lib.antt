-- To be read by whoever trusts the contracts: `Values`.
pub mod Values
