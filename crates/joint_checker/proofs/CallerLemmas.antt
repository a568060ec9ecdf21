-- What crates above may cite of graph files, of lawful pairs and of answers.
pub use Rattle.aiger_reader.proofs.GraphFiles.{answer_of, one_graph_refusal, refused, refused_not_long, spelled_not_long, spelled_not_refused}
pub use Rattle.joint_checker.proofs.DueRows.{outcomes_are_exact}
pub use Rattle.joint_checker.proofs.Joined.{header_made, lawful_pairs_are_sound, no_cut_gives}
pub use Rattle.joint_checker.proofs.Sizes.{extended_graph, outputs_of}
