-- To be read by whoever trusts the contracts: Logs, Deletions, Solving, Solvers, Loading and Shows. The others serve private clauses and
-- the invariants alone.
pub mod Logs
pub mod Deletions
pub mod Solving
pub mod Search
pub mod Levels
pub mod Descent
pub mod Models
pub mod Loading
pub mod Analyses
pub mod Orders
pub mod Marks
pub mod Solvers
pub mod Shows
pub mod Finding
