use Rattle.std.proofs.Common.{◌≡◌, ℕ, List, ◌^◌, ◌+◌, ◌<◌, ◌++◌, [], length, map, sym, ap, ap₂, subst, ◌∙◌}
use Rattle.std.specs.declared.option.Option.TheVariants.{None}
use Rattle.std.proofs.lemmas.List.{append-nil}
use Rattle.graph_core.specs.Graph.Extended.{AgreeOnColumns, Extended}
use Rattle.graph_core.specs.Graph.Operands.{Sides}
use Rattle.clause_core.specs.Clause.{Clause}
use Rattle.clause_core.specs.Facts.{IsClauseFact}
use Rattle.mv_fact.specs.Always.{Always}
use Rattle.ripple_graft.specs.Extension.{IsExtension}
use Rattle.std.specs.List.{All}
use Rattle.algebra_core.specs.AlgebraLines.{axioms, line_of}
use Rattle.algebra_core.specs.Agreement.{AreSameLines}
use Rattle.graph_core.specs.Graph.Extended as graphs
use Rattle.algebra_core.proofs.CallerLemmas.{imports_refl, same_of}
use Rattle.gate_axioms.specs.ClauseValues.{clause_value}
use Rattle.gate_axioms.specs.LeftAxioms.{LeftAxioms, axioms_but, left_lines}
use Rattle.gate_axioms.specs.Lines.{live_lines_in}
use Rattle.gate_axioms.proofs.CallerLemmas.{no_axiom}
use Rattle.mv_fact.specs.Facts.{Facts, fact_at}
use Rattle.poly_terms.specs.Tables.{Table, Sum, modulus_in}
use Rattle.pac_checker.specs.Rules.{IsCheckerSound, lines_with}
use Rattle.pac_checker.proofs.Recordings.{within_fresh}
use Rattle.pac_checker.proofs.judge.Judge.new.Goals as goal

-- a table with the number of outputs as its exponent has the modulus of the graph
table_modulus : (t s : Table) (e : Extended) (outputs : ℕ) → t ≡ s → s.exponent ≡ outputs → outputs ≡ length e.graph.outputs → modulus_in t ≡ graphs.modulus e
table_modulus t s e outputs same wide is = ap modulus_in same ∙ ap (λ w. 2 ^ w) (wide ∙ is)

last_is : (e : Extended) (a b max outputs : ℕ) → a ≡ max → max ≡ e.max → b ≡ outputs → outputs ≡ length e.graph.outputs → a + b ≡ (axioms e).last
last_is e a b max outputs f g h j = ap₂ (λ x y. x + y) (f ∙ g) (h ∙ j)

no_entries : (es : List (ℕ × Sum)) (id : ℕ) → es ≡ [] → fact_at es id ≡ None
no_entries es id none = ap (λ xs. fact_at xs id) none

-- with nothing deleted and no entries the lines are the axioms
first_lines : (left : LeftAxioms) (facts : Facts Sum Table) (e : Extended) → left.extended ≡ e → left.deleted ≡ [] → facts.entries ≡ [] → AreSameLines (lines_with left facts) (axioms e).live
first_lines left facts e same none empty id = same_of _ _ (ap (λ ls. line_of ls id) (ap (λ es. left_lines left ++ live_lines_in facts.table es) empty ∙ append-nil (left_lines left) ∙ first))
  where
    first : left_lines left ≡ (axioms e).live
    first = ap (λ (ds : List ℕ). axioms_but left.extended ds) none ∙ ap (λ (e : Extended). (axioms e).live) same

first_sound : (added : List Clause) (left : LeftAxioms) (sides : Sides) (facts : Facts Sum Table) (last : ℕ) (e : Extended) → left.extended ≡ e → facts.gates ≡ e.gates → modulus_in facts.table ≡ graphs.modulus e → facts.entries ≡ [] → (axioms e).last ≡ last → IsExtension e →
    Always e.gates (AgreeOnColumns e) → All (IsClauseFact e.gates) added → IsCheckerSound added left sides facts last
first_sound added left sides facts last e same gates modulus empty is extension columns importable =
    record {
      same_gates = gates ∙ ap (λ (e : Extended). e.gates) (sym same);
      same_modulus = modulus ∙ ap graphs.modulus (sym same);
      fresh = λ id above. no_entries facts.entries id empty;
      no_axiom = λ id above. subst (λ (e : Extended). line_of (axioms e).live id ≡ None) (sym same) (no_axiom e id extension (subst (λ n. n < id) (sym is) above));
      apart = λ id live. no_entries facts.entries id empty;
      columns = subst (λ (e : Extended). Always e.gates (AgreeOnColumns e)) (sym same) columns;
      importable = subst (λ (e : Extended). All (IsClauseFact e.gates) added) (sym same) importable;
    }

last_here : (c : goal.After-new-3) → c.from.result + c.from-2.result ≡ (axioms c.args.extended.now).last
last_here c =
    last_is c.args.extended.now c.from.result c.from-2.result c.max.result (c.outputs-outputs.result) c.from.ensures c.max.ensures.value c.from-2.ensures (c.outputs-outputs.ensures.value ∙ ap (λ g. length g.outputs) c.graph.ensures)

modulus_here : (c : goal.After-new-3) → modulus_in c.new-live.result.table ≡ graphs.modulus c.args.extended.now
modulus_here c = table_modulus c.new-live.result.table c.new.result c.args.extended.now (c.outputs-outputs.result) c.new-live.ensures.table c.new.ensures (c.outputs-outputs.ensures.value ∙ ap (λ g. length g.outputs) c.graph.ensures)

pub returns-clause-modulus : goal.returns-clause-modulus
returns-clause-modulus c = modulus_here c ∙ ap graphs.modulus (sym c.new-2.ensures.extended)

pub returns-clause-axioms : goal.returns-clause-axioms
returns-clause-axioms c = record {
  last = last_here c;
  lines = first_lines c.new-2.result c.new-live.result c.args.extended.now c.new-2.ensures.extended c.new-2.ensures.all c.new-live.ensures.empty;
  imports = imports_refl (map clause_value c.args.added.now);
}

pub invariant_of-result : goal.invariant_of-result
invariant_of-result c =
    first_sound c.args.added.now c.new-2.result c.args.operands.now c.new-live.result (c.from.result + c.from-2.result) c.args.extended.now c.new-2.ensures.extended (c.new-live.ensures.gates ∙ c.gates.ensures.value) (modulus_here c)
    c.new-live.ensures.empty (sym (last_here c)) c.gates.ensures.extension c.requires.columns c.requires.facts

pub returns-clause-within : goal.returns-clause-within
returns-clause-within c =
    within_fresh c.args.added.now c.new-2.result c.args.operands.now c.new-live.result (c.from.result + c.from-2.result) (invariant_of-result c).no_axiom (invariant_of-result c).fresh
