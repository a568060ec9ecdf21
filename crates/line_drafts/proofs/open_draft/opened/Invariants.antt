use Rattle.std.specs.List.{All}
use Rattle.algebra_core.specs.AlgebraLines.{LiveLine}
use Rattle.std.specs.Prelude.{List}
use Rattle.poly_terms.specs.Tables.{Extends, IsOf}
use Rattle.line_drafts.specs.Drafts.{IsKnownIn, IsOpen}
use Rattle.line_drafts.proofs.open_draft.opened.Given as goal

abbrev pub invariant-loop-place : goal.invariant-loop-place
invariant-loop-place l = record {
  table : Extends l.fn.terms l.terms;
  of : IsOf l.terms l.open.sum;
  opens : (live : List LiveLine) → All (IsKnownIn l.fn.terms live) l.known → IsOpen l.max l.terms live l.open;
}
