-- To be read by whoever trusts the contracts: all but Arranged and Taking, which say what is kept while steps are taken: they serve private
-- clauses alone.
pub mod Positions
pub mod Groups
pub mod AdderLists
pub mod GroupPlans
pub mod SlicePlan
pub mod Slices
pub mod ColumnPlans
pub mod Arranged
pub mod Taking
