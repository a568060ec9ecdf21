pub mod LineRests
pub mod OpenDrafts
pub mod Writings
pub mod Leaving
pub mod Starts
