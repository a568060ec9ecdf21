use Rattle.std.specs.List.{All}
use Rattle.poly_terms.specs.Tables.{Extends}
use Rattle.line_drafts.specs.Drafts.{IsAxiomOf}
use Rattle.line_drafts.proofs.axiom_lines.axiom_lines.Given as goal

abbrev pub invariant-loop-k : goal.invariant-loop-k
invariant-loop-k l = record {
  table : Extends l.fn.terms l.terms;
  axioms : All (IsAxiomOf l.extended l.terms) l.known.items;
}
