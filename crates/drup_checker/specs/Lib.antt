-- To be read by whoever trusts the contracts.
pub mod Opposing
pub mod Chains
pub mod PlaceNumbers
pub mod Checking
pub mod Tightness
pub mod Steps
pub mod Judging
