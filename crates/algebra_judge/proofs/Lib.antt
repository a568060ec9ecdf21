pub mod LineEnds
pub mod Fails
pub mod Tasks
pub mod AlgebraRests
pub mod AlgebraReached
pub mod LineTurns
pub mod Recording
pub mod AlgebraTurns
