-- Clauses that are deleted.
use Rattle.std.specs.Prelude.{◌≡◌, ℕ, zero, suc, List, [], ◌∷◌, ◌++◌, length, slice_index_or, slice_set}
use Rattle.std.specs.declared.option.Option.{Option}
use Rattle.std.specs.declared.option.Option.TheVariants.{None, Some}
use Rattle.std.specs.List.{All, Contains}
use Rattle.std.proofs.Common.{refl, sym, ap, subst, ◌∙◌, arith, inl, inr, ⊎_elim, append_assoc}
use Rattle.std.proofs.lemmas.List.Elements.{All-contains, All-push, Contains-append_cases, Contains-append_left, Contains-append_right, Contains-get_or}
use Rattle.std.proofs.lemmas.List.Sums.{fold-append}
use Rattle.clause_core.specs.Clause.{Clause, IsClauseInRange}
use Rattle.clause_core.specs.ClauseLines.{added, clause_in}
use Rattle.clause_core.specs.Log.{IsSpacedLine, Spacing, first_spacing, spacing_after, spacing_of}
use Rattle.clause_core.specs.declared.line.Line.{Line}
use Rattle.clause_core.specs.declared.line.Line.TheVariants.{Delete}
use Rattle.clause_core.proofs.Decided.{contains_here, contains_there}
use Rattle.clause_core.proofs.Log.{one_more, one_spaced}
use Rattle.unit_prop.specs.Standing.{Standing, clause_at, live_of}
use Rattle.cdcl_solver.specs.Deletions.{ChangeAlike, DeletesLine, StaysOrDeletes, Takes}
use Rattle.cdcl_solver.specs.Levels.{IsStage}
use Rattle.cdcl_solver.specs.Logs.{LogView, Continues}
use Rattle.cdcl_solver.specs.Orders.{OrderView}
use Rattle.cdcl_solver.specs.Solvers.{IsReady}
use Rattle.cdcl_solver.proofs.LogLemmas.{count_taken, deleted_push, takes_removes}

-- ---- a clause is taken

pub taken_there : (live : List Clause) (c : Clause) (next : List Clause) → Takes live c next → (d : Clause) → Contains next d → Contains live d
taken_there live c next h d has =
    subst (λ (z : List Clause). Contains z d) (sym h.2)
    (⊎_elim (Contains-append_left h.0 (c ∷ h.1) d) (λ m. Contains-append_right h.0 (c ∷ h.1) d (contains_there c h.1 d m)) (Contains-append_cases h.0 h.1 d (subst (λ (z : List Clause). Contains z d) h.3 has)))

pub taken_has : (live : List Clause) (c : Clause) (next : List Clause) → Takes live c next → Contains live c
taken_has live c next h = subst (λ (z : List Clause). Contains z c) (sym h.2) (Contains-append_right h.0 (c ∷ h.1) c (contains_here c h.1))

-- the live one of a place
pub takes_at : (xs : List (Option Clause)) (place : ℕ) (c : Clause) → clause_at xs place ≡ Some c → Takes (live_of xs) c (live_of (slice_set xs place None))
takes_at [] place c is = absurd (cc)
takes_at (None ∷ xs) zero c is = absurd (cc)
takes_at (Some e ∷ xs) zero c is = let f : e ≡ c = cc in ([], live_of xs, ap (λ (x : Clause). x ∷ live_of xs) f, refl)
takes_at (None ∷ xs) (suc place) c is = takes_at xs place c is
takes_at (Some e ∷ xs) (suc place) c is =
    let r = takes_at xs place c is in
    (e ∷ r.0, r.1, ap (λ (ys : List Clause). e ∷ ys) r.2, ap (λ (ys : List Clause). e ∷ ys) r.3)

pub ready_less : (max : ℕ) (s new : Standing) (order : OrderView) (base later : ℕ) (marks more : List ℕ) (c : Clause) → IsReady max s order base marks → Takes (live_of s.clauses) c (live_of new.clauses) → new.trail.greatest ≡ s.trail.greatest → IsStage new later more → IsReady max new order later more
ready_less max s new order base later marks more c h taken greatest stage = record {
  small = h.small;
  greatest = greatest ∙ h.greatest;
  ordered = h.ordered;
  covers = λ d has. h.covers d (taken_there (live_of s.clauses) c (live_of new.clauses) taken d has);
  within = λ d has. h.within d (taken_there (live_of s.clauses) c (live_of new.clauses) taken d has);
  stage = stage;
}

-- ---- a log goes on

pub range_less : (max : ℕ) (live : List Clause) (c : Clause) (next : List Clause) → Takes live c next → All (IsClauseInRange max) live → All (IsClauseInRange max) next
range_less max live c next taken all k d below =
    All-contains (IsClauseInRange max) live (slice_index_or next k d) all (taken_there live c next taken (slice_index_or next k d) (Contains-get_or next k d below))

pub continues_deleted : (max : ℕ) (given : List Clause) (old log after : LogView) (c : Clause) → Continues max given 0 old log → All (IsClauseInRange max) log.left → DeletesLine log c after → Continues max given 0 old after
continues_deleted max given old log after c h range d = record {
  more = h.more ++ Delete c ∷ [];
  lines = d.lines ∙ ap (λ (xs : List Line). xs ++ Delete c ∷ []) h.lines ∙ append_assoc old.lines h.more (Delete c ∷ []);
  in_range = All-push (λ (x : Line). IsClauseInRange max (clause_in x)) h.more (Delete c) h.in_range (All-contains (IsClauseInRange max) log.left c range (taken_has log.left c after.left d.left));
  lawful = one_more given [] old.left h.more log.left after.left (Delete c) h.lawful (takes_removes log.left c after.left d.left);
  spaced = one_spaced (spacing_of old.lines) h.more (Delete c) h.spaced
      (subst (λ (s : Spacing). IsSpacedLine s (Delete c)) (ap spacing_of h.lines ∙ fold-append spacing_after first_spacing old.lines h.more) d.spaced);
  few = omega (arith, h.few, ap (λ (xs : List Line). length (added xs)) d.lines, deleted_push log.lines c);
}

-- one clause less in both
pub alike_less : (live now next : List Clause) (first log after : LogView) (c : Clause) → ChangeAlike live first now log → Takes now c next → Takes log.left c after.left → ChangeAlike live first next after
alike_less live now next first log after c h taken left kind = omega (arith, h kind, count_taken kind now c next taken, count_taken kind log.left c after.left left)

-- ---- a deletion, if there is one

pub deleted_on : (max : ℕ) (live now next : List Clause) (first log after : LogView) → ((given : List Clause) → Continues max given 0 first log) → All (IsClauseInRange max) log.left → ChangeAlike live first now log → StaysOrDeletes now log next after
    → ((given : List Clause) → Continues max given 0 first after) × All (IsClauseInRange max) after.left × ChangeAlike live first next after
deleted_on max live now next first log after goes range alike (inl h) = (
  λ given. subst (λ (g : LogView). Continues max given 0 first g) (sym h.1) (goes given),
  subst (λ (g : LogView). All (IsClauseInRange max) g.left) (sym h.1) range,
  subst (λ (cs : List Clause). ChangeAlike live first cs after) (sym h.0) (subst (λ (g : LogView). ChangeAlike live first now g) (sym h.1) alike),
)
deleted_on max live now next first log after goes range alike (inr h) = (
  λ given. continues_deleted max given first log after h.0 (goes given) range h.2,
  range_less max log.left h.0 after.left h.2.left range,
  alike_less live now next first log after h.0 alike h.1 h.2.left,
)
