pub mod Words
pub mod Collecting
pub mod Appending
pub mod GoalLists
pub mod GateRanges
pub mod Meanings
pub mod PairGoals
