use Rattle.std.specs.Prelude.{ℕ, ◌<◌, ◌≤◌, slice_index_or}
use Rattle.std.specs.List.{All}
use Rattle.algebra_core.specs.Polynomials.{Term}
use Rattle.poly_terms.specs.Tables.{monomials_in}
use Rattle.line_drafts.proofs.open_draft.is_up_to.Given as goal

abbrev pub invariant-loop-i : goal.invariant-loop-i
invariant-loop-i l = record {
  low : (k : ℕ) (d : Term) → k < l.i → All (λ v. v ≤ l.max) (slice_index_or (monomials_in l.terms l.poly) k d).variables;
}
