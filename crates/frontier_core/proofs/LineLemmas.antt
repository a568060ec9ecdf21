-- Which lines are live under which ids.
use Rattle.std.specs.Prelude.{◌≡◌, ◌≢◌, ℕ, zero, suc, ◌+◌, cond, List, [], ◌∷◌, ◌++◌, map, IsSome}
use Rattle.std.specs.declared.option.Option.TheVariants.{Some}
use Rattle.std.specs.List.{AllByRecursion, Contains}
use Rattle.std.proofs.Common.{refl, sym, ap, subst, ◌∙◌, arith, eq-eqb, ne_eqb}
use Rattle.std.proofs.lemmas.List.Elements.{All-from_recursion, recursion_from_All}
use Rattle.graph_core.specs.declared.gate.Gate.{Gate}
use Rattle.algebra_core.specs.Polynomials.{value}
use Rattle.graph_core.specs.Graph.Extended.{Extended, Column, modulus}
use Rattle.algebra_core.specs.AlgebraLines.{LiveLine, gate_axiom, column_axiom, line_of, value_or_zero, after}
use Rattle.graph_core.proofs.OfGraphs.CallerLemmas.{Distinct, Apart, apart_from_pairs}
use Rattle.frontier_core.specs.LiveLines.{AxiomsAreLive, NewLineIsLive, LinesGrow}
use Rattle.frontier_core.proofs.Everywhere.{all_of_map, all_from_map}
use Rattle.frontier_core.proofs.Computed.{all_distinct}

first_line : (l : LiveLine) (live : List LiveLine) (id : ℕ) → l.id ≡ id → line_of (l ∷ live) id ≡ Some l
first_line l live id e = ap (λ b. cond b (Some l) (line_of live id)) (eq-eqb l.id id e)

later_line : (l : LiveLine) (live : List LiveLine) (id : ℕ) → l.id ≢ id → line_of (l ∷ live) id ≡ line_of live id
later_line l live id e = ap (λ b. cond b (Some l) (line_of live id)) (ne_eqb l.id id e)

skip_lines : (xs ys : List LiveLine) (id : ℕ) → AllByRecursion (λ l. l.id ≢ id) xs → line_of (xs ++ ys) id ≡ line_of ys id
skip_lines [] ys id h = refl
skip_lines (l ∷ xs) ys id h = later_line l (xs ++ ys) id h.0 ∙ skip_lines xs ys id h.1

gate_line : (m : ℕ) (gates : List Gate) (rest : List LiveLine) (x : Gate) → Distinct gates → Contains gates x → line_of (map (gate_axiom m) gates ++ rest) x.v ≡ Some (gate_axiom m x)
gate_line m [] rest x d c = let low = c.1 in absurd (omega arith)
gate_line m (y ∷ gates) rest x d (zero, low, is) = first_line (gate_axiom m y) (map (gate_axiom m) gates ++ rest) x.v (ap (λ z. z.v) is) ∙ ap (λ z. Some (gate_axiom m z)) is
gate_line m (y ∷ gates) rest x d (suc k, low, is) =
    let other : y.v ≢ x.v = subst (λ z. y.v ≢ z.v) is (All-from_recursion (λ z. y.v ≢ z.v) gates d.0 k x (omega arith)) in
    later_line (gate_axiom m y) (map (gate_axiom m) gates ++ rest) x.v other ∙ gate_line m gates rest x d.1 (k, omega arith, is)

column_line : (e : Extended) (cs : List Column) (c : Column) → Apart (map (λ d. d.number) cs) → Contains cs c → line_of (map (column_axiom e) cs) (e.max + 1 + c.number) ≡ Some (column_axiom e c)
column_line e [] c a h = let low = h.1 in absurd (omega arith)
column_line e (d ∷ cs) c a (zero, low, is) = first_line (column_axiom e d) (map (column_axiom e) cs) (e.max + 1 + c.number) (ap (λ z. e.max + 1 + z.number) is) ∙ ap (λ z. Some (column_axiom e z)) is
column_line e (d ∷ cs) c a (suc k, low, is) =
    let other : d.number ≢ c.number = subst (λ z. d.number ≢ z.number) is (All-from_recursion (λ z. d.number ≢ z.number) cs (all_of_map (λ j. d.number ≢ j) (λ z. z.number) cs a.0) k c (omega arith)) in
    later_line (column_axiom e d) (map (column_axiom e) cs) (e.max + 1 + c.number) (λ s. other (omega arith)) ∙ column_line e cs c a.1 (k, omega arith, is)

pub axioms_are_live : AxiomsAreLive
axioms_are_live e made = (
  (λ x c.
      let is = gate_line (modulus e) e.gates (map (column_axiom e) e.replaced) x (all_distinct e made) c in
      (subst IsSome (sym is) refl, λ σ. ap (λ o. value_or_zero o σ) is)),
  (λ c h.
      let skipped = skip_lines (map (gate_axiom (modulus e)) e.gates) (map (column_axiom e) e.replaced) (e.max + 1 + c.number)
      (all_from_map (λ l. l.id ≢ e.max + 1 + c.number) (gate_axiom (modulus e)) e.gates
      (recursion_from_All (λ x. x.v ≢ e.max + 1 + c.number) e.gates (λ k d low s. let far = made.gates_in_range k d low in absurd (omega arith)))) in
      let is = skipped ∙ column_line e e.replaced c (apart_from_pairs (map (λ d. d.number) e.replaced) made.numbers_once) h in
      (subst IsSome (sym is) refl, λ σ. ap (λ o. value_or_zero o σ) is)),
)

pub new_line_is_live : NewLineIsLive
new_line_is_live m l id p =
    let new : LiveLine = record { id = id; value = value m p } in
    let here = first_line new l.live id refl in (
      subst IsSome (sym here) refl,
      (λ σ. ap (λ o. value_or_zero o σ) here),
      (λ i ne. later_line new l.live i (λ e. ne (sym e))),
    )

pub lines_grow : LinesGrow
lines_grow m l [] x h k = ((k, tt), refl)
lines_grow m l (y ∷ xs) x h k = let rest = lines_grow m (after m l y) xs x h.1 k in ((h.0, rest.0), rest.1)
