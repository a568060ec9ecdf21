-- To be read by whoever trusts the contracts: all four.
pub mod FewVariables
pub mod MadeGroups
pub mod MadeSlices
pub mod Budgets
