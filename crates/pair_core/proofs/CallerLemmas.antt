-- What crates above may cite of premises that are the same, and of pairs that were written.
pub use Rattle.pair_core.proofs.SamePremises.{same_all, same_back, same_joined, same_self}
pub use Rattle.pair_core.proofs.WrittenPairs.{algebra_is_held, clauses_are_held, others_stay_held, pair_leaves_report, report_stays, report_stays_on, stopping_leaves_report, stops_with}
