pub mod Words
pub mod XorShapes
pub mod ReadBesides
pub mod XorSearch
pub mod Orders
pub mod Covers
pub mod Walks
pub mod FinalStages
pub mod FitCuts
pub mod NextShapes
pub mod Stages
mod FinalStageRows
