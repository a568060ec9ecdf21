-- What the writing of lines keeps, and how many gates there are.
use Rattle.std.specs.Prelude.{◌≡◌, ℕ, suc, ◌+◌, ◌<◌, ◌≤◌, true, List, [], ◌∷◌, map, length}
use Rattle.std.specs.List.{AllByRecursion, list_any}
use Rattle.std.specs.declared.option.Option.TheVariants.{None}
use Rattle.std.proofs.Common.{refl, sym, ap, subst, ◌∙◌, arith, ⊎_elim, eqb, eqb-true}
use Rattle.std.proofs.lemmas.Bool.{or_cases}
use Rattle.std.proofs.lemmas.List.Elements.{recursion_from_All}
use Rattle.std.proofs.lemmas.Bool.Decides.{Decides-eqb}
use Rattle.std.proofs.lemmas.Map.Steps.{length-le_from_distinct_below}
use Rattle.std.proofs.lemmas.Map.Made.{IsDistinct-from_AllPairs}
use Rattle.graph_core.specs.declared.gate.Gate.{Gate}
use Rattle.graph_core.specs.Graph.Extended.{Extended}
use Rattle.algebra_core.specs.AlgebraLines.{axioms}
use Rattle.graph_core.specs.Graph.Extended as graphs
use Rattle.algebra_core.specs.AlgebraLines as algebra
use Rattle.ripple_graft.specs.Extension.{IsExtension}
use Rattle.poly_terms.specs.Tables.{Extends}
use Rattle.poly_terms.specs.Laws.{extends_itself, extends_on}
use Rattle.pac_writer.specs.Writing.{AreLawfulSoFar, GrowsWrittenTable, Made}
use Rattle.frontier_core.proofs.Everywhere.{all_from_map}
use Rattle.frontier_core.proofs.OrderMade.{gates_of_defined}
use Rattle.column_reducer.specs.Reducing.{AreLinesOver, ContinuesLines}

pub goes_on : (old new : Made) → AreLinesOver old.extended old.sides old.table new → ContinuesLines old new
goes_on old new h = record { extended = h.extended; sides = h.sides; table = subst (Extends old.table) (sym h.table) (extends_itself old.table); unclosed = h.unclosed }

pub goes_itself : (l : Made) → l.closing ≡ None → ContinuesLines l l
goes_itself l unclosed = record { extended = refl; sides = refl; table = extends_itself l.table; unclosed = unclosed }

pub goes_after : (old mid new : Made) → GrowsWrittenTable old mid → ContinuesLines mid new → ContinuesLines old new
goes_after old mid new g h = record {
  extended = h.extended ∙ g.extended;
  sides = h.sides ∙ g.sides;
  table = extends_on old.table mid.table new.table g.table h.table;
  unclosed = h.unclosed;
}

-- ---- how many gates there are

below_any : (xs : List ℕ) (n q : ℕ) → AllByRecursion (λ u. u < n) xs → list_any (eqb q) xs ≡ true → q < n
below_any [] n q h t = cc
below_any (x ∷ xs) n q h t =
    ⊎_elim (λ e. subst (λ u. u < n) (sym (eqb-true q x e)) h.0) (λ r. below_any xs n q h.1 r) (or_cases (eqb q x) (list_any (eqb q) xs) t)

gates_few : (e : Extended) → IsExtension e → length (map (λ x. x.v) e.gates) ≤ e.max + 1
gates_few e made =
    length-le_from_distinct_below (map (λ x. x.v) e.gates) (e.max + 1) (IsDistinct-from_AllPairs Decides-eqb (map (λ x. x.v) e.gates) (gates_of_defined e made))
    (λ q t. below_any (map (λ x. x.v) e.gates) (e.max + 1) q
    (all_from_map (λ w. w < e.max + 1) (λ x. x.v) e.gates (recursion_from_All (λ x. x.v < e.max + 1) e.gates (λ k d low. let h = made.gates_in_range k d low in omega (arith, h)))) t)

pub last_axiom : (l : Made) → AreLawfulSoFar l → l.lines ≡ [] → l.last ≡ l.extended.max + length l.extended.graph.outputs
last_axiom l lawful fresh = sym lawful.greatest ∙ ap (λ xs. (algebra.after_all (graphs.modulus l.extended) (axioms l.extended) xs).last) fresh

as_many : (gates : List Gate) → length (map (λ g. g.v) gates) ≡ length gates
as_many [] = refl
as_many (g ∷ gates) = ap suc (as_many gates)

pub many_gates : (e : Extended) → IsExtension e → length e.gates ≤ e.max + 1
many_gates e made = omega (arith, gates_few e made, as_many e.gates)
