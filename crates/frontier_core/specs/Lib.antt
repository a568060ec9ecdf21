-- To be read by whoever trusts the contracts: Sets, Columns, Frontier, PlainOrder, Plan and LeastDifference; of Pending what
-- a combination may be over (AreSpare). Substitution, Sizes, RestLine, LiveLines, Pending, Totals and LastFrontier are laws for
-- proofs above, and the words that they need.
pub mod Sets
pub mod Columns
pub mod Frontier
pub mod Substitution
pub mod Sizes
pub mod PlainOrder
pub mod Plan
pub mod RestLine
pub mod LiveLines
pub mod Pending
pub mod Totals
pub mod LastFrontier
pub mod LeastDifference
