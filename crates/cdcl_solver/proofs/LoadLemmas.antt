-- Loading clauses into a propagator, and reading values out of it.
use Rattle.std.specs.Prelude.{◌≡◌, ℕ, zero, suc, ◌+◌, ◌-◌, ◌<◌, ◌≤◌, ◌⊎◌, Bool, true, false, not, List, [], ◌∷◌, ◌++◌, length, take, ℤ, pos, negsuc, neg_ℤ, slice_index_or}
use Rattle.std.specs.declared.option.Option.{Option}
use Rattle.std.specs.declared.option.Option.TheVariants.{None, Some}
use Rattle.std.specs.Option.{unwrap_or}
use Rattle.std.specs.List.{Contains}
use Rattle.std.proofs.Common.{refl, sym, ap, subst, ◌∙◌, arith, inl, inr, ⊎_elim, length-append}
use Rattle.std.proofs.lemmas.List.{take_more}
use Rattle.std.proofs.lemmas.List.Folds.{list_any_at}
use Rattle.std.proofs.lemmas.List.Elements.{Contains-append_left, Contains-push, Contains-push_cases}
use Rattle.clause_core.specs.Clause.{Clause, signed, holds}
use Rattle.clause_core.specs.UnitPropagation.{IsFalsified}
use Rattle.clause_core.proofs.Decided.{contains_here, contains_there, contains_nil}
use Rattle.clause_core.proofs.RupSoundness.{contains_cases}
use Rattle.clause_core.proofs.Places.{below_suc}
use Rattle.cdcl_solver.proofs.Trails.{IsValue, literal_positive}
use Rattle.unit_prop.specs.Trail.{IsLiteralUpTo}
use Rattle.unit_prop.specs.Standing.{Standing, live_of, IsPropagated}
use Rattle.cdcl_solver.proofs.Standings.{front, behind}
use Rattle.cdcl_solver.specs.Loading.{SameLive}
use Rattle.cdcl_solver.proofs.Words.{Loads}
use Rattle.cdcl_solver.specs.Search.{AllStand}
use Rattle.cdcl_solver.specs.Models.{AreModelValues}
use Rattle.cdcl_solver.specs.Orders.{HasVariablesOf}
use Rattle.cdcl_solver.specs.Solving.{assignment_of}
use Rattle.unit_prop.specs.Trail.{signed_variable}

pub live_push : (clauses : List (Option Clause)) (c : Clause) → live_of (clauses ++ Some c ∷ []) ≡ live_of clauses ++ c ∷ []
live_push [] c = refl
live_push (None ∷ clauses) c = live_push clauses c
live_push (Some d ∷ clauses) c = ap (λ (cs : List Clause). d ∷ cs) (live_push clauses c)

pub loads_none : (s : Standing) (max : ℕ) → (let empty : Standing = record { clauses = []; trail = record { greatest = max; literals = []; reasons = [] }; units = 0 } in s ≡ empty) → Loads s max []
loads_none s max e = subst (λ (t : Standing). Loads t max []) (sym e) (record {
  greatest = refl;
  live = record { there = λ c has. has; back = λ c has. has };
  within = λ c has. absurd (contains_nil c has);
})

pub same_live_self : (a b : List Clause) → a ≡ b → SameLive a b
same_live_self a b e = record { there = λ c has. subst (λ (cs : List Clause). Contains cs c) e has; back = λ c has. subst (λ (cs : List Clause). Contains cs c) (sym e) has }

-- a clause after the others is as good as before them
pub same_live_front : (clauses : List Clause) (c : Clause) → SameLive (clauses ++ c ∷ []) (c ∷ clauses)
same_live_front clauses c = record {
  there = λ d has. ⊎_elim (contains_there c clauses d) (λ e. subst (Contains (c ∷ clauses)) e (contains_here c clauses)) (Contains-push_cases clauses c d has);
  back = λ d has. ⊎_elim (λ e. subst (Contains (clauses ++ c ∷ [])) e (Contains-push clauses c)) (Contains-append_left clauses (c ∷ []) d) (contains_cases c clauses d has);
}

pub first_clause : (clauses : List Clause) (i : ℕ) (c : Clause) → i < length clauses → c ≡ slice_index_or clauses i c → take (i + 1) clauses ≡ take i clauses ++ c ∷ []
first_clause clauses i c b e = take_more clauses i c b ∙ ap (λ (d : Clause). take i clauses ++ d ∷ []) (sym e)

-- ---- values
-- the values of the variables from 1 up to those before v
pub record AreValuesBelow (standing : List ℤ) (var : ℕ) (values : List Bool) : Type 0 where
  pub count : length values + 1 ≡ var
  pub yes : (v : ℕ) → 0 < v → v < var → Contains standing (pos v) → slice_index_or values (v - 1) false ≡ true
  pub no : (v : ℕ) → 0 < v → v < var → Contains standing (neg_ℤ (pos v)) → slice_index_or values (v - 1) false ≡ false

pub values_more : (standing : List ℤ) (var : ℕ) (values : List Bool) (o : Option Bool) → IsValue standing (pos var) o → AreValuesBelow standing var values → AreValuesBelow standing (var + 1) (values ++ unwrap_or o false ∷ [])
values_more standing var values o told h = record {
  count = omega (arith, h.count, length-append values (unwrap_or o false ∷ []));
  yes = λ v s b has. ⊎_elim (λ k. front values (unwrap_or o false ∷ []) (v - 1) false (omega (arith, h.count)) ∙ h.yes v s k has)
      (λ e. behind values (unwrap_or o false) false (v - 1) (omega (arith, h.count)) ∙ is_true o told (subst (λ w. Contains standing (pos w)) e has)) (below_suc v var b);
  no = λ v s b has. ⊎_elim (λ k. front values (unwrap_or o false ∷ []) (v - 1) false (omega (arith, h.count)) ∙ h.no v s k has)
      (λ e. behind values (unwrap_or o false) false (v - 1) (omega (arith, h.count)) ∙ is_false o told (subst (λ w. Contains standing (neg_ℤ (pos w))) e has)) (below_suc v var b);
}
  where
    is_true : (p : Option Bool) → IsValue standing (pos var) p → Contains standing (pos var) → unwrap_or p false ≡ true
    is_true None v has = absurd (v.0 has)
    is_true (Some true) v has = refl
    is_true (Some false) v has = absurd (v.1 has)

    is_false : (p : Option Bool) → IsValue standing (pos var) p → Contains standing (neg_ℤ (pos var)) → unwrap_or p false ≡ false
    is_false None v has = refl
    is_false (Some true) v has = absurd (v.1 has)
    is_false (Some false) v has = refl

-- what stands is true in the values
pub true_by_values : (standing : List ℤ) (max : ℕ) (values : List Bool) (l : ℤ) → AreModelValues standing max values → 0 < signed_variable l → signed_variable l ≤ max → Contains standing l → signed (assignment_of values) l ≡ true
true_by_values standing max values (pos zero) h s b has = absurd (omega arith)
true_by_values standing max values (pos (suc v)) h s b has = h.yes (suc v) (omega arith) b has
true_by_values standing max values (negsuc v) h s b has = ap not (h.no (suc v) (omega arith) b has)

-- some literal of a clause that isn't falsified stands, where each variable has a value
some_stands : (standing : List ℤ) (c : Clause) → ((k : ℤ) → Contains c k → Contains standing k ⊎ Contains standing (neg_ℤ k)) → (IsFalsified standing c → ⊥) → (k : ℤ) × Contains c k × Contains standing k
some_stands standing [] told n = absurd (n (λ k has. absurd (contains_nil k has)))
some_stands standing (l ∷ c) told n =
    ⊎_elim (λ yes. (l, contains_here l c, yes))
    (λ no. let p = some_stands standing c (λ k has. told k (contains_there l c k has)) (λ f. n (λ k has. ⊎_elim (λ e. subst (λ x. Contains standing (neg_ℤ x)) e no) (λ m. f k m) (contains_cases l c k has))) in
    (p.0, contains_there l c p.0 p.1, p.2)) (told l (contains_here l c))

stands_signed : (vars : List ℕ) (s : Standing) (l : ℤ) → AllStand vars s → Contains vars (signed_variable l) → Contains s.trail.literals l ⊎ Contains s.trail.literals (neg_ℤ l)
stands_signed vars s (pos v) all has = all v has
stands_signed vars s (negsuc v) all has = ⊎_elim inr inl (all (suc v) has)

-- the values meet each live clause
pub values_satisfy : (vars : List ℕ) (s : Standing) (max : ℕ) (values : List Bool) → IsPropagated s → AllStand vars s → s.trail.greatest ≡ max → AreModelValues s.trail.literals max values → (c : Clause) → Contains (live_of s.clauses) c → HasVariablesOf vars c
    → ((l : ℤ) → Contains c l → IsLiteralUpTo max l) → holds (assignment_of values) c ≡ true
values_satisfy vars s max values settled all g are c has covers within =
    let sign : (k : ℤ) → Contains c k → 0 < signed_variable k = λ k in'. literal_positive k (within k in').0 in
    let range : (k : ℤ) → Contains c k → signed_variable k ≤ s.trail.greatest = λ k in'. omega (arith, (within k in').1, g) in
    let q = some_stands s.trail.literals c (λ k in'. stands_signed vars s k all (covers k in')) (λ f. settled.no_conflict c has f) in
    let t = true_by_values s.trail.literals max values q.0 are (sign q.0 q.1) (omega (arith, range q.0 q.1, g)) q.2 in
    list_any_at (signed (assignment_of values)) c q.1.0 q.0 q.1.1 (ap (signed (assignment_of values)) q.1.2 ∙ t)
