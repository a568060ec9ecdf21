-- To be trusted by whoever reads the contracts: `Verdicts`, `Decisions`, `Notes` for the note on a rewriting, `Replacements` for what takes the
-- place of outputs, `Tries` for the plans that were tried, `Pairs` for the certificates, `Budgets` for those that are enough, `Files` and
-- `Written` of command_core, and all of pair_core.
-- `Endings` serves private clauses alone.
pub mod Replacements
pub mod Notes
pub mod Tries
pub mod Pairs
pub mod Verdicts
pub mod Decisions
pub mod Budgets
pub mod Endings
