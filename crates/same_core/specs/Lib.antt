-- To be trusted by whoever reads the contracts: `Merged` (the merged gates, and what it is that two graphs agree), `Certificates`,
-- `Files`, `Outcome` with `pair_answer_of_clauses`, and `Deciding`, and `Stopping`, `InOrder` and `Written` of command_core. Private
-- clauses alone cite the rest.
pub mod Merged
pub mod Certificates
pub mod Files
pub mod Outcome
pub mod Deciding
pub mod Places
pub mod Fails
pub mod Pairs
pub mod Answers
