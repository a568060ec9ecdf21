-- Answers of a solver.
use Rattle.std.specs.Prelude.{◌≡◌, ℕ, ◌<◌, Bool, true, List, ◌++◌, map, length, ℤ, pos, neg_ℤ, slice_index_or}
use Rattle.std.specs.declared.option.Option.{Option}
use Rattle.std.specs.List.{All, Contains}
use Rattle.std.proofs.Common.{sym, subst, ◌∙◌, ⊎_elim}
use Rattle.std.proofs.lemmas.List.Elements.{All-contains, Contains-append_right}
use Rattle.clause_core.specs.Clause.{Clause, IsSubset, Satisfies, signed, holds}
use Rattle.clause_core.specs.UnitPropagation.{IsRup, IsRefuted, IsTautology}
use Rattle.clause_core.specs.Clause.{IsClauseInRange}
use Rattle.clause_core.specs.Log.{IsLemma}
use Rattle.clause_core.proofs.Places.{same_at}
use Rattle.unit_prop.specs.Standing.{Standing, live_of, IsPropagated}
use Rattle.cdcl_solver.proofs.Trails.{trail_of, clause_within, literal_positive}
use Rattle.cdcl_solver.proofs.Trails.{consistent}
use Rattle.cdcl_solver.proofs.Standings.{not_refuted}
use Rattle.cdcl_solver.specs.Loading.{SameLive}
use Rattle.cdcl_solver.proofs.Words.{Loads}
use Rattle.cdcl_solver.specs.Levels.{Keeps}
use Rattle.cdcl_solver.specs.Search.{StandsUnder, ExtendsStanding, AllStand}
use Rattle.cdcl_solver.specs.Models.{AreModelValues}
use Rattle.cdcl_solver.specs.Orders.{Covers}
use Rattle.cdcl_solver.specs.Solving.{assignment_of}
use Rattle.cdcl_solver.proofs.SearchLemmas.{rup_wider, map_neg_has, map_neg_twice}
use Rattle.cdcl_solver.proofs.LoadLemmas.{true_by_values, values_satisfy}

-- the same clauses are live in a state with the same clauses
pub live_kept : (s t : Standing) (clauses : List Clause) → t.clauses ≡ s.clauses → SameLive (live_of s.clauses) clauses → SameLive (live_of t.clauses) clauses
live_kept s t clauses same h = subst (λ (cs : List (Option Clause)). SameLive (live_of cs) clauses) (sym same) h

neg_back : (ls : List ℤ) (l : ℤ) → Contains (map neg_ℤ ls) l → Contains ls (neg_ℤ l)
neg_back ls l has = subst (λ (xs : List ℤ). Contains xs (neg_ℤ l)) (map_neg_twice ls) (map_neg_has (map neg_ℤ ls) l has)

-- assumptions that stand with every consequence are not refuted
pub not_refuted_answer : (s t : Standing) (clauses : List Clause) (assumptions : List ℤ) → SameLive (live_of s.clauses) clauses → t.clauses ≡ s.clauses → StandsUnder t assumptions → IsRup clauses (map neg_ℤ assumptions) → ⊥
not_refuted_answer s t clauses assumptions h same under rup = ⊎_elim by_chain by_tautology (rup_wider clauses (live_of t.clauses) (map neg_ℤ assumptions) (live_kept s t clauses same h).back rup)
  where
    by_chain : IsRefuted (live_of t.clauses) (map neg_ℤ (map neg_ℤ assumptions)) → ⊥
    by_chain r = not_refuted t assumptions under.settled under.assumed (subst (IsRefuted (live_of t.clauses)) (map_neg_twice assumptions) r)

    by_tautology : IsTautology (map neg_ℤ assumptions) → ⊥
    by_tautology v =
        consistent t.trail (trail_of t under.sound) (neg_ℤ (pos v.0)) (under.assumed (neg_ℤ (pos v.0)) (neg_back assumptions (pos v.0) v.2))
        (under.assumed (neg_ℤ (neg_ℤ (pos v.0))) (neg_back assumptions (neg_ℤ (pos v.0)) v.3))

-- a lemma over the live clauses is one over the same clauses
pub lemma_same : (a b : List Clause) (c : Clause) → SameLive a b → IsLemma a c → IsLemma b c
lemma_same a b c same h = record {
  rup = rup_wider a b c same.there h.rup;
  no_tautology = h.no_tautology;
  new = λ k d in'. All-contains (λ (e : Clause). IsSubset e c → ⊥) a (slice_index_or b k d) h.new (same.back (slice_index_or b k d) (k, in', same_at b k (slice_index_or b k d) d in'));
}

-- a model
pub model_answer : (vars : List ℕ) (s t u : Standing) (max : ℕ) (left given : List Clause) (assumptions : List ℤ) (values : List Bool) → max < 2147483648 → Loads s max (left ++ given) → Covers vars (left ++ given) → Keeps s t → IsSubset assumptions t.trail.literals → ExtendsStanding t u → IsPropagated u → AllStand vars u →
    AreModelValues u.trail.literals max values → IsClauseInRange max assumptions →
    (length values ≡ max) × Satisfies (assignment_of values) given × All (λ l. signed (assignment_of values) l ≡ true) assumptions
model_answer vars s t u max left given assumptions values small h covers same under extends settled all are range = (
  are.count,
  (λ k d b. meets (slice_index_or given k d) (k, b, same_at given k (slice_index_or given k d) d b)),
  (λ k d b. let has : Contains assumptions (slice_index_or assumptions k d) = (k, b, same_at assumptions k (slice_index_or assumptions k d) d b) in
      let within = clause_within max assumptions small range (slice_index_or assumptions k d) has in
      true_by_values u.trail.literals max values (slice_index_or assumptions k d) are (literal_positive (slice_index_or assumptions k d) within.0) within.1
      (extends.1 (slice_index_or assumptions k d) (under (slice_index_or assumptions k d) has))),
)
  where
    meets : (c : Clause) → Contains given c → holds (assignment_of values) c ≡ true
    meets c has =
        let there = Contains-append_right left given c has in
        values_satisfy vars u max values settled all (extends.0.greatest ∙ same.greatest ∙ h.greatest) are c
        ((live_kept t u (left ++ given) extends.0.clauses (live_kept s t (left ++ given) same.clauses h.live)).back c there) (covers c there) (h.within c there)
