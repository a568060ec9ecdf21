-- To be trusted by whoever reads the contracts: `LineRefusals`, `Faults`, `Fails` and `ClauseBody`. `Taking` says what a checker has
-- taken, `ClauseLines` what one line is for a reader and for a checker.
pub mod LineRefusals
pub mod Faults
pub mod Fails
pub mod Taking
pub mod ClauseLines
pub mod ClauseBody
