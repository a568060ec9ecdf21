-- To be read by whoever trusts the contracts: all of them.
pub mod ClauseFiles
pub mod Certificates
pub mod Texts
