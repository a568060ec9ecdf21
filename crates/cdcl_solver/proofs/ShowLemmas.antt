-- Clauses that are shown on their own.
use Rattle.std.specs.Prelude.{◌≡◌, ◌≢◌, ℕ, zero, suc, true, ◌+◌, ◌≤◌, ◌⊎◌, List, [], ◌∷◌, ◌++◌, map, ℤ, pos, negsuc, neg_ℤ, nat_abs, slice_index_or}
use Rattle.std.specs.List.{All, Contains}
use Rattle.std.specs.Option.{IfSome}
use Rattle.std.specs.declared.option.Option.{Option}
use Rattle.std.specs.declared.option.Option.TheVariants.{Some}
use Rattle.std.proofs.Common.{Bool, Err, IfOk, IsTrue, Ok, Result, refl, sym, ap, subst, ◌∙◌, arith, inl, inr, ⊎_elim}
use Rattle.std.proofs.lemmas.List.Elements.{All-cons, All-contains, All-map, Contains-get_or, Contains-push, Contains-push_cases, Contains-append_left}
use Rattle.clause_core.specs.Clause.{Clause, IsClauseInRange, IsSubset, SameSet}
use Rattle.clause_core.specs.Log.{IsLemma}
use Rattle.clause_core.specs.UnitPropagation.{IsRefuted, IsRup, IsTautology}
use Rattle.clause_core.specs.declared.line.Line.{Line}
use Rattle.clause_core.specs.declared.line.Line.TheVariants.{Add}
use Rattle.clause_core.proofs.Decided.{contains_nil, contains_there}
use Rattle.clause_core.proofs.Sets.{rup_same}
use Rattle.unit_prop.specs.Standing.{Standing, live_of, IsPropagated}
use Rattle.unit_prop.specs.Trail.{signed_variable}
use Rattle.cdcl_solver.specs.Deletions.{ChangeAlike, OnlyAdds}
use Rattle.cdcl_solver.specs.Loading.{SameLive}
use Rattle.cdcl_solver.specs.Logs.{LogView, Continues}
use Rattle.cdcl_solver.specs.Search.{StandsUnder}
use Rattle.cdcl_solver.specs.Shows.{HasNoneWithin, IsShownByLog, KeepsOrLearns}
use Rattle.cdcl_solver.specs.Solvers.{SolverView}
use Rattle.cdcl_solver.specs.Solving.{IsAnswer}
use Rattle.cdcl_solver.specs.declared.solved.Solved.{Solved}
use Rattle.cdcl_solver.specs.declared.solved.Solved.TheVariants.{Refuted}
use Rattle.cdcl_solver.proofs.LogLemmas.{adds_more, alike_more, continues_one, continues_weaker}
use Rattle.cdcl_solver.proofs.SearchLemmas.{map_neg_twice, rup_wider}
use Rattle.cdcl_solver.proofs.SolveLemmas.{lemma_same}
use Rattle.cdcl_solver.proofs.SolverLemmas.{live_front}
use Rattle.cdcl_solver.proofs.Trails.{neg_differs, variable-neg}

-- ---- clauses of two literals

one_case : (a k : ℤ) → Contains (a ∷ []) k → a ≡ k
one_case a k has = ⊎_elim (λ n. absurd (contains_nil k n)) (λ e. e) (Contains-push_cases [] a k has)

two_cases : (a b k : ℤ) → Contains (a ∷ b ∷ []) k → (a ≡ k) ⊎ (b ≡ k)
two_cases a b k has = ⊎_elim (λ m. inl (one_case a k m)) inr (Contains-push_cases (a ∷ []) b k has)

first_has : (a b : ℤ) → Contains (a ∷ b ∷ []) a
first_has a b = Contains-append_left (a ∷ []) (b ∷ []) a (Contains-push [] a)

second_has : (a b : ℤ) → Contains (a ∷ b ∷ []) b
second_has a b = Contains-push (a ∷ []) b

two_flip : (a b : ℤ) → IsSubset (a ∷ b ∷ []) (b ∷ a ∷ [])
two_flip a b k has = ⊎_elim (λ e. subst (Contains (b ∷ a ∷ [])) e (second_has b a)) (λ e. subst (Contains (b ∷ a ∷ [])) e (first_has b a)) (two_cases a b k has)

-- equal literals give equal clauses
pub two_equal : (a b one other : ℤ) → a ≡ one → b ≡ other → a ∷ b ∷ [] ≡ one ∷ other ∷ []
two_equal a b one other e f = rw (e, f) refl

none_subset : (live : List Clause) (c d : Clause) → IsSubset c d → HasNoneWithin live d → HasNoneWithin live c
none_subset live c d sub none x has within = none x has (λ l i. sub l (within l i))

-- Where the negation of a literal stands with every consequence, and another literal doesn't, no live clause is within the clause of both.
none_within : (s : Standing) (one other : ℤ) → IsPropagated s → Contains s.trail.literals (neg_ℤ one) → (Contains s.trail.literals other → ⊥) → HasNoneWithin (live_of s.clauses) (one ∷ other ∷ [])
none_within s one other settled there absent d has sub = settled.no_conflict d has (λ k i. ⊎_elim (falsified k) (λ e. absurd (not_other (subst (Contains d) (sym e) i))) (two_cases one other k (sub k i)))
  where
    falsified : (k : ℤ) → one ≡ k → Contains s.trail.literals (neg_ℤ k)
    falsified k e = subst (Contains s.trail.literals) (ap neg_ℤ e) there

    not_other : Contains d other → ⊥
    not_other i = absent (settled.closed d other has (i, λ k j. ⊎_elim (λ e. inr (falsified k e)) (λ e. inl (sym e)) (two_cases one other k (sub k j))))

pub none_begun : (s : Standing) (one other : ℤ) (assumptions : List ℤ) (clauses : List Clause) → assumptions ≡ neg_ℤ one ∷ [] → live_of s.clauses ≡ clauses → StandsUnder s assumptions → (Contains s.trail.literals other → ⊥) → HasNoneWithin clauses (one ∷ other ∷ [])
none_begun s one other assumptions clauses is same under absent =
    subst (λ (cs : List Clause). HasNoneWithin cs (one ∷ other ∷ [])) same
    (none_within s one other under.settled (under.assumed (neg_ℤ one) (subst (λ (ls : List ℤ). Contains ls (neg_ℤ one)) (sym is) (Contains-push [] (neg_ℤ one)))) absent)

pub none_flipped : (live : List Clause) (one other : ℤ) → HasNoneWithin live (other ∷ one ∷ []) → HasNoneWithin live (one ∷ other ∷ [])
none_flipped live one other none = none_subset live (one ∷ other ∷ []) (other ∷ one ∷ []) (two_flip one other) none

-- ---- what is kept

pub range_within : (max : ℕ) (c d : Clause) → IsSubset c d → IsClauseInRange max d → IsClauseInRange max c
range_within max c d sub h k x below = All-contains (λ l. (l ≢ pos 0) × (nat_abs l ≤ max)) d (slice_index_or c k x) h (sub (slice_index_or c k x) (Contains-get_or c k x below))

neg_ranged : (max : ℕ) (l : ℤ) → (l ≢ pos 0) × (nat_abs l ≤ max) → (neg_ℤ l ≢ pos 0) × (nat_abs (neg_ℤ l) ≤ max)
neg_ranged max (pos zero) h = absurd (h.0 refl)
neg_ranged max (pos (suc v)) h = (λ e. cc, h.1)
neg_ranged max (negsuc v) h = (λ e. cc, h.1)

-- the negations of literals in range are
pub negated_range : (max : ℕ) (c : Clause) → IsClauseInRange max c → IsClauseInRange max (map neg_ℤ c)
negated_range max c h = All-map (λ l. (l ≢ pos 0) × (nat_abs l ≤ max)) neg_ℤ c (λ k d below. neg_ranged max _ (h k d below))

-- literals of two variables are no tautology
two_no_tautology : (one other : ℤ) (c : Clause) → signed_variable one ≢ signed_variable other → IsSubset c (one ∷ other ∷ []) → ¬ (IsTautology c)
two_no_tautology one other c apart sub t =
    ⊎_elim
    (λ e. ⊎_elim (λ f. neg_differs (pos t.0) t.1 (sym e ∙ f)) (λ f. apart (ap signed_variable e ∙ sym (ap signed_variable f ∙ variable-neg (pos t.0)))) yes_no)
    (λ e. ⊎_elim (λ f. apart (ap signed_variable f ∙ variable-neg (pos t.0) ∙ sym (ap signed_variable e))) (λ f. neg_differs (pos t.0) t.1 (sym e ∙ f)) yes_no)
    (two_cases one other (pos t.0) (sub (pos t.0) t.2))
  where
    yes_no : (one ≡ neg_ℤ (pos t.0)) ⊎ (other ≡ neg_ℤ (pos t.0))
    yes_no = two_cases one other (neg_ℤ (pos t.0)) (sub (neg_ℤ (pos t.0)) t.3)

pub two_lemma : (live : List Clause) (one other : ℤ) (c : Clause) → SameSet c (one ∷ other ∷ []) → signed_variable one ≢ signed_variable other → IsRup live (one ∷ other ∷ []) → HasNoneWithin live (one ∷ other ∷ []) → IsLemma live c
two_lemma live one other c same apart rup none = record {
  rup = rup_same live (one ∷ other ∷ []) c (same.1, same.0) rup;
  no_tautology = two_no_tautology one other c apart same.0;
  new = λ k d below. none_subset live c (one ∷ other ∷ []) same.0 none (slice_index_or live k d) (Contains-get_or live k d below);
}

-- an answer, if there is one
pub some_answer : (max : ℕ) (live : List Clause) (assumptions : List ℤ) (conflicts : ℕ) (old new : LogView) (found : Option Solved) (solved : Solved) → IfSome found (IsAnswer max live assumptions conflicts old new) → found ≡ Some solved → IsAnswer max live assumptions conflicts old new solved
some_answer max live assumptions conflicts old new found solved answer is = subst (λ (o : Option Solved). IfSome o (IsAnswer max live assumptions conflicts old new)) is answer

-- where both negations are refuted, the clause follows
pub refuted_follows : (max : ℕ) (live : List Clause) (assumptions : List ℤ) (conflicts : ℕ) (old new : LogView) (solved : Solved) (one other : ℤ) → IsAnswer max live assumptions conflicts old new solved → solved ≡ Refuted → assumptions ≡ neg_ℤ one ∷ neg_ℤ other ∷ [] → IsRup (new.left ++ live) (one ∷ other ∷ [])
refuted_follows max live assumptions conflicts old new solved one other answer is both =
    let refuted : IsAnswer max live assumptions conflicts old new Refuted = subst (λ (s : Solved). IsAnswer max live assumptions conflicts old new s) is answer in
    subst (IsRup (new.left ++ live)) (ap (map neg_ℤ) both ∙ map_neg_twice (one ∷ other ∷ [])) refuted

-- where the negations of two literals are refuted, the clause of both follows
pub near_follows : {E : Type 0} (live : List Clause) (lits : List ℤ) (one other : ℤ) (r : Result Bool E) → lits ≡ neg_ℤ one ∷ neg_ℤ other ∷ [] → IfOk r (λ found. IsTrue found → IsRefuted live lits) → IfOk r (λ near. IsTrue near → IsRup live (one ∷ other ∷ []))
near_follows live lits one other (Ok near) is h = λ t. inl (subst (IsRefuted live) is (h t))
near_follows live lits one other (Err e) is h = tt

-- two literals, pushed one after the other
pub two_pushed : (a b d : List ℤ) (x y one other : ℤ) → a ≡ [] → b ≡ a ++ x ∷ [] → d ≡ b ++ y ∷ [] → x ≡ one → y ≡ other → d ≡ one ∷ other ∷ []
two_pushed a b d x y one other e f g h k = g ∙ (ap (λ (ls : List ℤ). ls ++ y ∷ []) (f ∙ ap (λ (ls : List ℤ). ls ++ x ∷ []) e) ∙ two_equal x y one other h k)

-- the log goes on by what is kept
pub kept_more : (max : ℕ) (live : List Clause) (first : LogView) (n wider : ℕ) (s new : SolverView) (log after : LogView) → n + 1 ≤ wider → s.max ≡ max → SameLive s.live (log.left ++ live) → Continues max live n first log → All (IsClauseInRange max) log.left → KeepsOrLearns s log new after
    → SameLive new.live (after.left ++ live) × Continues max live wider first after × All (IsClauseInRange max) after.left
kept_more max live first n wider s new log after b m same goes all (inl h) = (
  subst (λ (v : SolverView). SameLive v.live (after.left ++ live)) (sym h.0) (subst (λ (g : LogView). SameLive s.live (g.left ++ live)) (sym h.1) same),
  subst (λ (g : LogView). Continues max live wider first g) (sym h.1) (continues_weaker max live n wider first log (omega (arith, b)) goes),
  subst (λ (g : LogView). All (IsClauseInRange max) g.left) (sym h.1) all,
)
kept_more max live first n wider s new log after b m same goes all (inr h) =
    let range = subst (λ k. IsClauseInRange k h.0) m h.2 in (
      subst (λ (v : SolverView). SameLive v.live (after.left ++ live)) (sym h.3) (subst (λ (g : LogView). SameLive (s.live ++ h.0 ∷ []) (g.left ++ live)) (sym h.4) (live_front s.live log.left live h.0 same)),
      subst (λ (g : LogView). Continues max live wider first g) (sym h.4)
          (continues_weaker max live (n + 1) wider first (record { lines = log.lines ++ Add h.0 ∷ []; left = h.0 ∷ log.left }) b (continues_one max live n first log h.0 goes (lemma_same s.live (log.left ++ live) h.0 same h.1) range)),
      subst (λ (g : LogView). All (IsClauseInRange max) g.left) (sym h.4) (All-cons (IsClauseInRange max) h.0 log.left range all),
    )

-- what follows still does
pub kept_follows : (live : List Clause) (s new : SolverView) (log after : LogView) (c : Clause) → KeepsOrLearns s log new after → IsRup (log.left ++ live) c → IsShownByLog live c after true
kept_follows live s new log after c (inl h) r = subst (λ (g : LogView). IsRup (g.left ++ live) c) (sym h.1) r
kept_follows live s new log after c (inr h) r = subst (λ (g : LogView). IsRup (g.left ++ live) c) (sym h.4) (rup_wider (log.left ++ live) (h.0 ∷ (log.left ++ live)) c (λ d i. contains_there h.0 (log.left ++ live) d i) r)

-- and is in both
pub kept_alike : (live : List Clause) (first : LogView) (m : List Line) (s new : SolverView) (log after : LogView) → log.lines ≡ first.lines ++ m → ChangeAlike live first s.live log → OnlyAdds first log → KeepsOrLearns s log new after
    → ChangeAlike live first new.live after × OnlyAdds first after
kept_alike live first m s new log after e alike adds (inl h) = (
  subst (λ (v : SolverView). ChangeAlike live first v.live after) (sym h.0) (subst (λ (g : LogView). ChangeAlike live first s.live g) (sym h.1) alike),
  subst (λ (g : LogView). OnlyAdds first g) (sym h.1) adds,
)
kept_alike live first m s new log after e alike adds (inr h) = (
  subst (λ (v : SolverView). ChangeAlike live first v.live after) (sym h.3) (subst (λ (g : LogView). ChangeAlike live first (s.live ++ h.0 ∷ []) g) (sym h.4) (alike_more live s.live first log h.0 alike)),
  adds_more first log after m h.0 e adds h.4,
)
