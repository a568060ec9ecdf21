-- A solver between two calls, and logs over the same clauses.
use Rattle.std.specs.Prelude.{◌≡◌, ◌≢◌, ℕ, ◌+◌, ◌<◌, ◌⊎◌, Bool, true, false, List, [], ◌∷◌, ◌++◌, map, ℤ, neg_ℤ, slice_index_or, OnOk, OnErr}
use Rattle.std.specs.declared.option.Option.{Option}
use Rattle.std.specs.declared.option.Option.TheVariants.{None, Some}
use Rattle.std.specs.declared.result.Result.{Result}
use Rattle.std.specs.declared.result.Result.TheVariants.{Ok, Err}
use Rattle.std.specs.List.{All, Contains}
use Rattle.std.proofs.Common.{refl, sym, ap, subst, ◌∙◌, ◌≤◌, arith, inl, inr, ⊎_elim, append_assoc, append-nil, length, take, take_all}
use Rattle.std.proofs.lemmas.List.Elements.{All-cons, All-contains, Contains-append_left, Contains-append_right, Contains-append_cases, Contains-push, Contains-push_cases}
use Rattle.clause_core.specs.Clause.{Clause, IsClauseInRange, Satisfies, holds}
use Rattle.clause_core.specs.Log.{AreLogLines}
use Rattle.clause_core.specs.UnitPropagation.{IsRup}
use Rattle.clause_core.specs.declared.line.Line.{Line}
use Rattle.clause_core.specs.declared.line.Line.TheVariants.{Add, Delete}
use Rattle.clause_core.proofs.Decided.{contains_nil, contains_there}
use Rattle.clause_core.proofs.Places.{same_at}
use Rattle.unit_prop.specs.Standing.{Standing, StandsAlone, live_of}
use Rattle.std.specs.Bool.{MatchBool}
use Rattle.cdcl_solver.specs.Search.{BeginsSearch}
use Rattle.cdcl_solver.specs.Levels.{IsStage, Keeps}
use Rattle.cdcl_solver.specs.Deletions.{AreAdditions, ChangeAlike, OnlyAdds}
use Rattle.cdcl_solver.specs.Loading.{SameLive, IsSolverOver}
use Rattle.cdcl_solver.proofs.Words.{Loads}
use Rattle.cdcl_solver.specs.Logs.{LogView, Continues, lemmas}
use Rattle.cdcl_solver.specs.Orders.{OrderView, GrowsOrder, HasVariablesOf}
use Rattle.cdcl_solver.specs.Solvers.{SolverView, IsReady, IsSolverEnd, TurnsSearch, with_clause}
use Rattle.cdcl_solver.specs.Solving.{IsAnswer, assignment_of}
use Rattle.cdcl_solver.specs.Finding.{Finds, solver_of}
use Rattle.cdcl_solver.specs.declared.search.Found.TheVariants.{Answer}
use Rattle.cdcl_solver.specs.declared.solved.Solved.{Solved}
use Rattle.cdcl_solver.specs.declared.solved.Solved.TheVariants.{Refuted, Model, Spent}
use Rattle.cdcl_solver.proofs.Trails.{clause_within}
use Rattle.cdcl_solver.proofs.LoadLemmas.{first_clause, live_push, same_live_self}
use Rattle.cdcl_solver.proofs.LogLemmas.{adds_more, alike_more, continues_one, lemmas_push}
use Rattle.cdcl_solver.proofs.OrderLemmas.{covers_grown}
use Rattle.cdcl_solver.proofs.SearchLemmas.{rup_wider}
use Rattle.cdcl_solver.proofs.SolveLemmas.{lemma_same, not_refuted_answer}

pub loads_of : (max : ℕ) (s : Standing) (order : OrderView) (base : ℕ) (marks : List ℕ) → IsReady max s order base marks → Loads s max (live_of s.clauses)
loads_of max s order base marks h = record { greatest = h.greatest; live = same_live_self (live_of s.clauses) (live_of s.clauses) refl; within = h.within }

pub ready_none : (max : ℕ) (s : Standing) (order : OrderView) (base : ℕ) (marks : List ℕ) → max < 2147483648 → order.greatest ≡ max → Loads s max [] → IsStage s base marks → IsReady max s order base marks
ready_none max s order base marks small e h stage = record { small = small; greatest = h.greatest; ordered = e; covers = λ c has. absurd (contains_nil c (h.live.there c has)); within = λ c has. absurd (contains_nil c (h.live.there c has)); stage = stage }

pub alone_none : (s : Standing) (max : ℕ) → (let empty : Standing = record { clauses = []; trail = record { greatest = max; literals = []; reasons = [] }; units = 0 } in s ≡ empty) → StandsAlone s
alone_none s max e = subst (λ (t : Standing). StandsAlone t) (sym e) (record { within = omega arith; by_unit = λ i b. absurd (omega arith); complete = λ r l f. absurd (cc) }, refl)

-- the same clauses, at another moment
pub ready_kept : (max : ℕ) (s new : Standing) (order after : OrderView) (base later : ℕ) (marks more : List ℕ) → IsReady max s order base marks → new.clauses ≡ s.clauses → new.trail.greatest ≡ s.trail.greatest → after ≡ order → IsStage new later more → IsReady max new after later more
ready_kept max s new order after base later marks more h same greatest order' stage = record {
  small = h.small;
  greatest = greatest ∙ h.greatest;
  ordered = ap (λ (o : OrderView). o.greatest) order' ∙ h.ordered;
  covers = λ c has. subst (λ (o : OrderView). HasVariablesOf o.vars c) (sym order') (h.covers c (subst (λ (cs : List (Option Clause)). Contains (live_of cs) c) same has));
  within = λ c has l in'. h.within c (subst (λ (cs : List (Option Clause)). Contains (live_of cs) c) same has) l in';
  stage = stage;
}

-- more variables in the order
pub ready_entered : (max : ℕ) (s : Standing) (order after : OrderView) (base : ℕ) (marks : List ℕ) → IsReady max s order base marks → GrowsOrder order after → IsReady max s after base marks
ready_entered max s order after base marks h grows = record {
  small = h.small;
  greatest = h.greatest;
  ordered = grows.greatest ∙ h.ordered;
  covers = covers_grown order after (live_of s.clauses) grows h.covers;
  within = h.within;
  stage = h.stage;
}

-- back at the beginning, and what was looked at there undone
pub ready_settled : (max : ℕ) (s mid new : Standing) (order : OrderView) (base later : ℕ) (marks more : List ℕ) → IsReady max s order base marks → Keeps s mid → IsStage mid later more → new ≡ mid → IsReady max new order later more
ready_settled max s mid new order base later marks more h k stage e = subst (λ (t : Standing). IsReady max t order later more) (sym e) (ready_kept max s mid order order base later marks more h k.clauses k.greatest refl stage)

pub live_more : (s new : Standing) (c : Clause) → new.clauses ≡ s.clauses ++ Some c ∷ [] → live_of new.clauses ≡ live_of s.clauses ++ c ∷ []
live_more s new c e = ap live_of e ∙ live_push s.clauses c

pub ready_more : (max : ℕ) (s new : Standing) (order : OrderView) (base later : ℕ) (marks more : List ℕ) (c : Clause) → IsReady max s order base marks → IsClauseInRange max c → HasVariablesOf order.vars c → new.clauses ≡ s.clauses ++ Some c ∷ [] → new.trail.greatest ≡ s.trail.greatest → IsStage new later more → IsReady max new order later more
ready_more max s new order base later marks more c h range has' e greatest stage = record {
  small = h.small;
  greatest = greatest ∙ h.greatest;
  ordered = h.ordered;
  covers = λ d has. ⊎_elim (λ m. h.covers d m) (λ f. subst (HasVariablesOf order.vars) f has')
      (Contains-push_cases (live_of s.clauses) c d (subst (λ (cs : List Clause). Contains cs d) (live_more s new c e) has));
  within = λ d has l in'. ⊎_elim (λ m. h.within d m l in') (λ f. clause_within max c h.small range l (subst (λ (x : Clause). Contains x l) (sym f) in'))
      (Contains-push_cases (live_of s.clauses) c d (subst (λ (cs : List Clause). Contains cs d) (live_more s new c e) has));
  stage = stage;
}

-- one more clause, unless memory runs out
pub ready_added : {A E : Type 0} (max : ℕ) (s new : Standing) (order : OrderView) (base later : ℕ) (marks more : List ℕ) (c : Clause) (r : Result A E) → IsReady max s order base marks → IsClauseInRange max c → HasVariablesOf order.vars c → new.trail.greatest ≡ s.trail.greatest → IsStage new later more
    → OnOk r (new.clauses ≡ s.clauses ++ Some c ∷ []) → OnErr r (new.clauses ≡ s.clauses) → IsReady max new order later more
ready_added max s new order base later marks more c (Ok u) h range has greatest stage ok err = ready_more max s new order base later marks more c h range has ok greatest stage
ready_added max s new order base later marks more c (Err e) h range has greatest stage ok err = ready_kept max s new order order base later marks more h err greatest refl stage

pub settled_answer : (s t : Standing) (assumptions : List ℤ) (b : Bool) → BeginsSearch s t assumptions b → MatchBool b (IsRup (live_of s.clauses) (map neg_ℤ assumptions) → ⊥) (IsRup (live_of s.clauses) (map neg_ℤ assumptions))
settled_answer s t assumptions true h = not_refuted_answer s t (live_of s.clauses) assumptions (same_live_self (live_of s.clauses) (live_of s.clauses) refl) h.0.clauses h.1
settled_answer s t assumptions false h = h.1

pub view_none : (s : Standing) (max : ℕ) → (let empty : Standing = record { clauses = []; trail = record { greatest = max; literals = []; reasons = [] }; units = 0 } in s ≡ empty) → (let v : SolverView = record { max = max; live = live_of s.clauses } in let e : SolverView = record { max = max; live = [] } in v ≡ e)
view_none s max e = ap (λ (t : Standing). let v : SolverView = record { max = max; live = live_of t.clauses } in v) e

pub view_more : (max : ℕ) (s new : Standing) (c : Clause) → new.clauses ≡ s.clauses ++ Some c ∷ [] → solver_of max new ≡ with_clause (solver_of max s) c
view_more max s new c e = ap (λ (cs : List Clause). let v : SolverView = record { max = max; live = cs } in v) (live_more s new c e)

pub view_kept : (max : ℕ) (s new : Standing) → new.clauses ≡ s.clauses → solver_of max new ≡ solver_of max s
view_kept max s new e = ap (λ (cs : List (Option Clause)). let v : SolverView = record { max = max; live = live_of cs } in v) e

-- ---- all clauses of a list

pub all_begun : (s : SolverView) (clauses : List Clause) → s ≡ record { max = s.max; live = s.live ++ take 0 clauses }
all_begun s [] = ap (λ (live : List Clause). let v : SolverView = record { max = s.max; live = live } in v) (sym (append-nil s.live))
all_begun s (c ∷ clauses) = ap (λ (live : List Clause). let v : SolverView = record { max = s.max; live = live } in v) (sym (append-nil s.live))

pub all_range : (first s : SolverView) (i : ℕ) (c : Clause) (clauses : List Clause) → s ≡ record { max = first.max; live = first.live ++ take i clauses } → i < length clauses → c ≡ slice_index_or clauses i c → All (IsClauseInRange first.max) clauses → IsClauseInRange s.max c
all_range first s i c clauses is below at range = subst (λ (v : SolverView). IsClauseInRange v.max c) (sym is) (subst (IsClauseInRange first.max) (sym at) (range i c below))

pub all_more : (first s new : SolverView) (i : ℕ) (c : Clause) (clauses : List Clause) → s ≡ record { max = first.max; live = first.live ++ take i clauses } → i < length clauses → c ≡ slice_index_or clauses i c → new ≡ with_clause s c →
    new ≡ record { max = first.max; live = first.live ++ take (i + 1) clauses }
all_more first s new i c clauses is below at more =
    let front : (first.live ++ take i clauses) ++ c ∷ [] ≡ first.live ++ take (i + 1) clauses =
    append_assoc first.live (take i clauses) (c ∷ []) ∙ ap (λ (z : List Clause). first.live ++ z) (sym (first_clause clauses i c below at)) in
    more ∙ ap (λ (v : SolverView). with_clause v c) is ∙ ap (λ (live : List Clause). let v : SolverView = record { max = first.max; live = live } in v) front

pub all_done : (first s : SolverView) (i : ℕ) (clauses : List Clause) → length clauses ≤ i → s ≡ record { max = first.max; live = first.live ++ take i clauses } → s ≡ record { max = first.max; live = first.live ++ clauses }
all_done first s i clauses end is = is ∙ ap (λ (z : List Clause). let v : SolverView = record { max = first.max; live = first.live ++ z } in v) (take_all i clauses end)

-- ---- a solver that is loaded

pub left_range : (max : ℕ) (none s : SolverView) (clauses copies left : List Clause) → none ≡ record { max = max; live = [] } → s ≡ record { max = none.max; live = none.live ++ clauses } → SameLive copies left → All (IsClauseInRange max) left → All (IsClauseInRange s.max) copies
left_range max none s clauses copies left empty is same range =
    let m : s.max ≡ max = ap (λ (v : SolverView). v.max) is ∙ ap (λ (v : SolverView). v.max) empty in
    subst (λ (n : ℕ). All (IsClauseInRange n) copies) (sym m)
    (λ k d below. All-contains (IsClauseInRange max) left (slice_index_or copies k d) range (same.there (slice_index_or copies k d) (k, below, same_at copies k (slice_index_or copies k d) d below)))

pub loaded : (max : ℕ) (none s new : SolverView) (clauses copies left : List Clause) → none ≡ record { max = max; live = [] } → s ≡ record { max = none.max; live = none.live ++ clauses } → new ≡ record { max = s.max; live = s.live ++ copies } → SameLive copies left →
    IsSolverOver new max (left ++ clauses)
loaded max none s new clauses copies left empty is now same =
    let first : s ≡ record { max = max; live = clauses } = is ∙ ap (λ (v : SolverView). let w : SolverView = record { max = v.max; live = v.live ++ clauses } in w) empty in
    let both : new ≡ record { max = max; live = clauses ++ copies } = now ∙ ap (λ (v : SolverView). let w : SolverView = record { max = v.max; live = v.live ++ copies } in w) first in
    subst (λ (v : SolverView). IsSolverOver v max (left ++ clauses)) (sym both) (
      refl,
      record {
        there = λ c has. ⊎_elim (Contains-append_right left clauses c) (λ m. Contains-append_left left clauses c (same.there c m)) (Contains-append_cases clauses copies c has);
        back = λ c has. ⊎_elim (λ m. Contains-append_right clauses copies c (same.back c m)) (Contains-append_left clauses copies c) (Contains-append_cases left clauses c has);
      },
    )

-- an answer of a turn
pub turned : (old : SolverView) (log : LogView) (new : SolverView) (after : LogView) (assumptions : List ℤ) (solved : Solved) → TurnsSearch old log new after assumptions (Some solved) → IsSolverEnd old assumptions solved × (new ≡ old) × (after ≡ log) × (solved ≢ Spent)
turned old log new after assumptions Refuted h = (h.0, h.1, h.2, λ e. absurd (cc))
turned old log new after assumptions (Model values) h = (h.0, h.1, h.2, λ e. absurd (cc))
turned old log new after assumptions Spent h = absurd h

-- what the log left is live
abbrev pub AreKnown : List Clause → List Clause → Type 0
AreKnown left live = (c : Clause) → Contains left c → Contains live c

pub known_live : (left live : List Clause) → AreKnown left live → SameLive live (left ++ live)
known_live left live known = record {
  there = λ c has. Contains-append_right left live c has;
  back = λ c has. ⊎_elim (known c) (λ m. m) (Contains-append_cases left live c has);
}

pub live_front : (live left given : List Clause) (c : Clause) → SameLive live (left ++ given) → SameLive (live ++ c ∷ []) ((c ∷ left) ++ given)
live_front live left given c h = record {
  there = λ d has. ⊎_elim (λ m. contains_there c (left ++ given) d (h.there d m)) (λ e. subst (Contains (c ∷ (left ++ given))) e (Contains-append_left (c ∷ []) (left ++ given) c (Contains-push [] c))) (Contains-push_cases live c d has);
  back = λ d has. ⊎_elim (λ m. ⊎_elim (λ e. subst (Contains (live ++ c ∷ [])) e (Contains-push live c)) (λ n. absurd (contains_nil d n)) (front_cases d m)) (λ m. Contains-append_left live (c ∷ []) d (h.back d m)) (Contains-append_cases (c ∷ []) (left ++ given) d has);
}
  where
    front_cases : (d : Clause) → Contains (c ∷ []) d → (c ≡ d) ⊎ Contains (let n : List Clause = [] in n) d
    front_cases d m = ⊎_elim inr inl (Contains-push_cases [] c d m)

pub answer_turn : (max : ℕ) (s : Standing) (old new : SolverView) (log after : LogView) (assumptions : List ℤ) (few : Bool) (solved : Solved) → Finds max s assumptions few (Answer solved) → solver_of max s ≡ old → new ≡ old → after ≡ log → TurnsSearch old log new after assumptions (Some solved)
answer_turn max s old new log after assumptions few Refuted h v e f = (subst (λ (w : SolverView). IsSolverEnd w assumptions Refuted) v h, e, f)
answer_turn max s old new log after assumptions few (Model values) h v e f = (subst (λ (w : SolverView). IsSolverEnd w assumptions (Model values)) v h, e, f)
answer_turn max s old new log after assumptions few Spent h v e f = absurd h

-- one lemma more
pub turn_more : (max : ℕ) (live : List Clause) (first : LogView) (n : ℕ) (s new : SolverView) (log after : LogView) (assumptions : List ℤ) → s.max ≡ max → SameLive s.live (log.left ++ live) → Continues max live n first log → All (IsClauseInRange max) log.left
    → lemmas log ≡ lemmas first + n → TurnsSearch s log new after assumptions None
    → (new.max ≡ max) × SameLive new.live (after.left ++ live) × Continues max live (n + 1) first after × All (IsClauseInRange max) after.left × (lemmas after ≡ lemmas first + (n + 1))
turn_more max live first n s new log after assumptions m same goes all count h =
    let range = subst (λ k. IsClauseInRange k h.0) m h.2 in (
      ap (λ (v : SolverView). v.max) h.3 ∙ m,
      subst (λ (v : SolverView). SameLive v.live (after.left ++ live)) (sym h.3) (subst (λ (g : LogView). SameLive (s.live ++ h.0 ∷ []) (g.left ++ live)) (sym h.4) (live_front s.live log.left live h.0 same)),
      subst (λ (g : LogView). Continues max live (n + 1) first g) (sym h.4) (continues_one max live n first log h.0 goes (lemma_same s.live (log.left ++ live) h.0 same h.1) range),
      subst (λ (g : LogView). All (IsClauseInRange max) g.left) (sym h.4) (All-cons (IsClauseInRange max) h.0 log.left range all),
      omega (arith, ap lemmas h.4, lemmas_push log h.0, count),
    )

-- and it is one more in both
pub turn_alike : (live : List Clause) (first : LogView) (m : List Line) (s new : SolverView) (log after : LogView) (assumptions : List ℤ) → log.lines ≡ first.lines ++ m → ChangeAlike live first s.live log → OnlyAdds first log → TurnsSearch s log new after assumptions None
    → ChangeAlike live first new.live after × OnlyAdds first after
turn_alike live first m s new log after assumptions e alike adds h = (
  subst (λ (v : SolverView). ChangeAlike live first v.live after) (sym h.3) (subst (λ (g : LogView). ChangeAlike live first (s.live ++ h.0 ∷ []) g) (sym h.4) (alike_more live s.live first log h.0 alike)),
  adds_more first log after m h.0 e adds h.4,
)

-- a log's additions are as lawful over the same clauses
pub relog : (live given own : List Clause) (more : List Line) (left : List Clause) → AreKnown live (own ++ given) → AreKnown given live → AreAdditions more → AreLogLines live [] own more left → AreLogLines given [] own more left
relog live given own [] left there back adds h = h
relog live given own (Delete c ∷ more) left there back adds h = absurd adds
relog live given own (Add c ∷ more) left there back adds h = (
  h.0,
  (inl (⊎_elim (lemma_same (own ++ live) (own ++ given) c same) (λ g. absurd (contains_nil c g.0)) h.1.0), h.1.1),
  relog live given h.0 more left (λ d has. subst (λ (cs : List Clause). Contains (cs ++ given) d) (sym h.1.1) (contains_there c (own ++ given) d (there d has))) back adds h.2,
)
  where
    same : SameLive (own ++ live) (own ++ given)
    same = record {
      there = λ d has. ⊎_elim (Contains-append_left own given d) (there d) (Contains-append_cases own live d has);
      back = λ d has. ⊎_elim (Contains-append_left own live d) (λ m. Contains-append_right own live d (back d m)) (Contains-append_cases own given d has);
    }

left_kept : (given own : List Clause) (more : List Line) (left : List Clause) → AreAdditions more → AreLogLines given [] own more left → AreKnown own left
left_kept given own [] left adds h c has = subst (λ (cs : List Clause). Contains cs c) (sym h) has
left_kept given own (Delete d ∷ more) left adds h c has = absurd adds
left_kept given own (Add d ∷ more) left adds h c has = left_kept given h.0 more left adds h.2 c (subst (λ (cs : List Clause). Contains cs c) (sym h.1.1) (contains_there d own c has))

pub satisfied_part : (live given : List Clause) (σ : ℕ → Bool) → AreKnown given live → Satisfies σ live → Satisfies σ given
satisfied_part live given σ sub h k d b = All-contains (λ (c : Clause). holds σ c ≡ true) live (slice_index_or given k d) h (sub (slice_index_or given k d) (k, b, same_at given k (slice_index_or given k d) d b))

-- the answer of a turn, over what was live at the beginning
pub end_answer : (max : ℕ) (s : SolverView) (live : List Clause) (assumptions : List ℤ) (conflicts : ℕ) (old new : LogView) (solved : Solved) → s.max ≡ max → SameLive s.live (new.left ++ live) → (solved ≡ Spent → lemmas new ≡ lemmas old + conflicts) → IsSolverEnd s assumptions solved
    → IsAnswer max live assumptions conflicts old new solved
end_answer max s live assumptions conflicts old new Refuted m same count e = rup_wider s.live (new.left ++ live) (map neg_ℤ assumptions) same.there e
end_answer max s live assumptions conflicts old new (Model values) m same count e = (e.0 ∙ m, satisfied_part s.live live (assignment_of values.items) (λ c has. same.back c (Contains-append_right new.left live c has)) e.1, e.2)
end_answer max s live assumptions conflicts old new Spent m same count e = (count refl, λ r. e (rup_wider (new.left ++ live) s.live (map neg_ℤ assumptions) same.back r))

-- over the clauses that were loaded, the log goes on and the answer holds as over those that were given
module _ (max : ℕ) (live given : List Clause) (limit : ℕ) (old new : LogView) (same : SameLive live (old.left ++ given)) (adds : OnlyAdds old new) (h : Continues max live limit old new) where
  only : AreAdditions h.more
  only = adds h.more h.lines

  given_live : AreKnown given live
  given_live c has = same.back c (Contains-append_right old.left given c has)

  pub continues_given : Continues max given limit old new
  continues_given = record { more = h.more; lines = h.lines; in_range = h.in_range; lawful = relog live given old.left h.more new.left same.there given_live only h.lawful; spaced = h.spaced; few = h.few }

  wider : AreKnown (new.left ++ live) (new.left ++ given)
  wider c has = ⊎_elim (Contains-append_left new.left given c)
      (λ m. ⊎_elim (λ k. Contains-append_left new.left given c (left_kept live old.left h.more new.left only h.lawful c k)) (Contains-append_right new.left given c) (Contains-append_cases old.left given c (same.there c m)))
      (Contains-append_cases new.left live c has)

  narrower : AreKnown (new.left ++ given) (new.left ++ live)
  narrower c has = ⊎_elim (Contains-append_left new.left live c) (λ m. Contains-append_right new.left live c (given_live c m)) (Contains-append_cases new.left given c has)

  pub answer_given : (assumptions : List ℤ) (conflicts : ℕ) (solved : Solved) → IsAnswer max live assumptions conflicts old new solved → IsAnswer max given assumptions conflicts old new solved
  answer_given assumptions conflicts Refuted a = rup_wider (new.left ++ live) (new.left ++ given) (map neg_ℤ assumptions) wider a
  answer_given assumptions conflicts (Model values) a = (a.0, satisfied_part live given (assignment_of values.items) given_live a.1, a.2)
  answer_given assumptions conflicts Spent a = (a.0, λ r. a.1 (rup_wider (new.left ++ given) (new.left ++ live) (map neg_ℤ assumptions) narrower r))
