pub mod Columns
pub mod Using
pub mod NearLogs
pub mod OpenGoals
pub mod Placings
