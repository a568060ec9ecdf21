-- What crates above may cite of verdicts.
pub use Rattle.joint_prover.proofs.Exactness.{enough_is_proved, verdicts_are_exact}
pub use Rattle.joint_prover.proofs.HeldFiles.{proved_pairs_are_held}
