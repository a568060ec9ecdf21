use Rattle.std.specs.Prelude.{ℕ, ◌≡◌, ◌<◌, true, map, slice_index_or}
use Rattle.std.specs.List.{All}
use Rattle.graph_core.specs.Graph.Literals.{variable_of}
use Rattle.algebra_core.specs.Polynomials.{Term}
use Rattle.frontier_core.specs.Sets.{has}
use Rattle.poly_terms.specs.Tables.{monomials_in}
use Rattle.line_drafts.proofs.remainder.is_over.Given as goal

abbrev pub invariant-loop-i : goal.invariant-loop-i
invariant-loop-i l = record {
  of : (k : ℕ) (d : Term) → k < l.i → All (λ v. has (map variable_of l.lits) v ≡ true) (slice_index_or (monomials_in l.terms l.poly) k d).variables;
}
