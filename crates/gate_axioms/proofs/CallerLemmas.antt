-- What crates above may cite of live polynomials as lines, of the axioms that are left, and of the values of clauses.
pub use Rattle.gate_axioms.proofs.Entries.{line_at, line_of-entries}
pub use Rattle.gate_axioms.proofs.Growth.{keeps_itself, keeps_lines}
pub use Rattle.gate_axioms.proofs.AxiomLines.{left_zero, line_of-but, no_axiom, none_left}
pub use Rattle.gate_axioms.proofs.ClauseProducts.{clause_values, value_is}
pub use Rattle.gate_axioms.proofs.ImportedClauses.{imports_bounded, imports_vanish, same_imports}
