-- Live lines keep their values as their table grows.
use Rattle.std.specs.Prelude.{◌==◌, cond}
use Rattle.std.proofs.Common.{ℕ, Bool, true, false, List, [], ◌∷◌, refl, sym, subst}
use Rattle.std.specs.declared.option.Option.TheVariants.{Some}
use Rattle.std.specs.List.{All, AllByRecursion}
use Rattle.std.specs.Map.{values_of}
use Rattle.std.proofs.lemmas.List.Elements.{recursion_from_All}
use Rattle.graph_core.specs.declared.Gate.{Gate}
use Rattle.algebra_core.specs.AlgebraLines.{line_of}
use Rattle.poly_terms.specs.Tables.{Table, Sum, Extends}
use Rattle.poly_terms.specs.Laws.{value_stays, extends_itself}
use Rattle.mv_fact.specs.Facts.{Facts, IsGrown}
use Rattle.algebra_core.specs.Agreement.{AreSame}
use Rattle.gate_axioms.specs.Lines.{live_line_in, live_lines_in}
use Rattle.gate_axioms.specs.Steps.{Vanishes, KeepsLines}
use Rattle.algebra_core.proofs.CallerLemmas.{same_refl}

lines_stay : (gates : List Gate) (old new : Table) (es : List (ℕ × Sum)) (id : ℕ) → Extends old new → AllByRecursion (Vanishes gates old) (values_of es) →
    AreSame (line_of (live_lines_in new es) id) (line_of (live_lines_in old es) id)
lines_stay gates old new [] id e h = tt
lines_stay gates old new (x ∷ es) id e h = go (x.0 == id) (lines_stay gates old new es id e h.1)
  where
    go : (b : Bool) → AreSame (line_of (live_lines_in new es) id) (line_of (live_lines_in old es) id) → AreSame (cond b (Some (live_line_in new x)) (line_of (live_lines_in new es) id)) (cond b (Some (live_line_in old x)) (line_of (live_lines_in old es) id))
    go true rest = λ σ. value_stays old new x.1 σ e h.0.of_table
    go false rest = rest

-- facts whose table has grown keep their lines
pub keeps_lines : (old new : Facts Sum Table) → IsGrown (λ new old. Extends old new) old new → All (Vanishes old.gates old.table) (values_of old.entries) → KeepsLines old new
keeps_lines old new g h = record {
  gates = g.gates;
  table = g.table;
  entries = g.entries;
  lines = λ id. subst (λ es. AreSame (line_of (live_lines_in new.table es) id) (line_of (live_lines_in old.table old.entries) id)) (sym g.entries)
      (lines_stay old.gates old.table new.table old.entries id g.table (recursion_from_All (Vanishes old.gates old.table) (values_of old.entries) h));
}

pub keeps_itself : (a : Facts Sum Table) → KeepsLines a a
keeps_itself a = record { gates = refl; table = extends_itself a.table; entries = refl; lines = λ id. same_refl (line_of (live_lines_in a.table a.entries) id) }
