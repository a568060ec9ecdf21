-- To be trusted by whoever reads the contract of `judge`: `Faults`, `Fails`, `AlgebraBody` and `Records`. `AlgebraLines` says what one
-- line is for a reader and for a checker.
pub mod Faults
pub mod Fails
pub mod AlgebraLines
pub mod Records
pub mod AlgebraBody
