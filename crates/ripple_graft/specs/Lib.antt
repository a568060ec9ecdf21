-- To be read by whoever trusts the contracts: all of them, but of Grafts only what is answered of a cut.
pub mod Ripple
pub mod Extension
pub mod Blocks
pub mod Grafts
pub mod Beside
pub mod HeaderBlocks
