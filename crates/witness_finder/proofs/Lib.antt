pub mod Counts
pub mod Differences
pub mod Places
pub mod Searching
