pub mod Values
pub mod ColumnGoals
pub mod Replaced
