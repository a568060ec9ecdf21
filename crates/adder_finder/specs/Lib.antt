-- To be read by whoever trusts the contracts: XorShape and FinalStage. The others serve private clauses alone.
pub mod XorShape
pub mod FinalStage
pub mod XorFound
pub mod Cover
pub mod StageSearch
