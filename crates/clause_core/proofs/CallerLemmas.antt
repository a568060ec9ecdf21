-- What crates above may cite of clauses, of what follows from them, and of lists that are alike.
pub use Rattle.graph_core.proofs.OfGraphs.CallerLemmas.{any_cases, any_here, any_nil, any_there}
pub use Rattle.clause_core.proofs.AddedClauses.{facts_stay, subset_holds}
pub use Rattle.clause_core.proofs.Chains.{as_many, kept_clauses_are_lawful, tight_chains_go_on}
pub use Rattle.clause_core.proofs.Chosen.{chosen_at, chosen_clauses_follow}
pub use Rattle.clause_core.proofs.Copies.{alike_adds, alike_any, alike_flip, alike_joins, alike_removes, alike_rup, removes_any, removes_some, same_alike, same_flip}
pub use Rattle.clause_core.proofs.Decided.{contains_here, contains_nil, contains_there}
pub use Rattle.clause_core.proofs.GateClauseLaws.{gate_clauses_mean_evaluation, goals_mean_equality}
pub use Rattle.clause_core.proofs.Goals.{decided_shown}
pub use Rattle.clause_core.proofs.Places.{at, at_contained, below_suc, contains_at, distinct, sets_are_lists}
pub use Rattle.clause_core.proofs.Propagation.{fixpoint_leaves_no_chain}
pub use Rattle.clause_core.proofs.RupSoundness.{contains_cases}
pub use Rattle.clause_core.proofs.Sets.{contains_map, refuted_more}
pub use Rattle.clause_core.proofs.Used.{chosen_clauses_are_used, there}
