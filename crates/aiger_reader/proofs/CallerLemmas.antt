-- What crates above may cite of files that are opened and read.
pub use Rattle.aiger_reader.proofs.Opening.{Inspects-OpensOnly, OpensOnly-Err, OpensOnly-Ok}
pub use Rattle.aiger_reader.proofs.GraphFiles.{answer_of, one_graph_refusal, refused, refused_not_long, spelled_not_long, spelled_not_refused}
pub use Rattle.aiger_reader.proofs.LimitLaws.{spelled_found_or_long}
