-- Logs of lemmas before the first goal: none, and more.
use Rattle.std.specs.Prelude.{◌≡◌, ℕ, ◌+◌, ◌-◌, ◌≤◌, Bool, true, false, List, [], ◌∷◌, ◌++◌, ℤ, IfOk, IsTrue, OnOk}
use Rattle.std.specs.List.{All, Contains}
use Rattle.std.specs.declared.result.Result.{Result}
use Rattle.std.specs.declared.result.Result.TheVariants.{Ok, Err}
use Rattle.std.proofs.Common.{refl, sym, ap, subst, ◌∙◌, arith, append_assoc, true≢false}
use Rattle.std.proofs.lemmas.List.Elements.{All-append, All-nil, Contains-append_right}
use Rattle.std.proofs.lemmas.List.Sums.{fold-append}
use Rattle.graph_core.specs.Graph.Extended.{Extended}
use Rattle.clause_core.specs.Clause.{Clause, IsClauseInRange}
use Rattle.clause_core.specs.ClauseLines.{ClauseLine}
use Rattle.clause_core.specs.GateClauses.{gate_clauses}
use Rattle.clause_core.specs.Log.{AreLogLines, AreRunsSpaced, Spacing, first_spacing, spacing_after, spacing_of}
use Rattle.clause_core.specs.UnitPropagation.{IsRup}
use Rattle.cdcl_solver.specs.Deletions.{OnlyAdds}
use Rattle.cdcl_solver.specs.Loading.{SameLive}
use Rattle.cdcl_solver.specs.Logs.{Continues, LogView, lemmas}
use Rattle.cdcl_solver.specs.Shows.{IsShownByLog}
use Rattle.cdcl_solver.specs.Solvers.{SolverView}
use Rattle.goal_refuter.specs.Beginnings.{IsBegun}
use Rattle.goal_refuter.specs.Refuting.{AreOver, IsSoFar}
use Rattle.goal_refuter.specs.Refutations.{AreRefuted, unmet_goals}
use Rattle.goal_refuter.proofs.Kept.{Within, continues_kept, left_live, live_itself, live_kept, rup_within}
use Rattle.goal_refuter.proofs.Lists.{take_none}
use Rattle.goal_refuter.proofs.LogLines.{log_joins, log_over, spaced_joins}
use Rattle.goal_refuter.proofs.Outcomes.{Ranged}

abbrev empty : LogView
empty = record { lines = []; left = [] }

pub begun_none : (max : ℕ) (given : List Clause) (conflicts : ℕ) (solver : SolverView) (log : LogView) → solver ≡ record { max = max; live = given } → log ≡ record { lines = []; left = [] } → IsBegun max given conflicts solver log
begun_none max given conflicts solver log is none = subst (λ (s : SolverView). IsBegun max given conflicts s log) (sym is) (subst (λ (l : LogView). IsBegun max given conflicts (record { max = max; live = given }) l) (sym none) (record {
  lemmas_only = record { more = []; lines = refl; in_range = All-nil (Ranged max); lawful = refl; spaced = tt; few = omega arith };
  kept = record { max_is = refl; live = live_itself given; in_range = All-nil (IsClauseInRange max) };
}))

-- More lines after more lines.
pub continues_on : (max : ℕ) (given : List Clause) (n m limit : ℕ) (old mid new : LogView) → Continues max given n old mid → Continues max given m mid new → lemmas new ≤ lemmas old + limit → Continues max given limit old new
continues_on max given n m limit old mid new a b few = record {
  more = a.more ++ b.more;
  lines = b.lines ∙ ap (λ (z : List ClauseLine). z ++ b.more) a.lines ∙ append_assoc old.lines a.more b.more;
  in_range = All-append (Ranged max) a.more b.more a.in_range b.in_range;
  lawful = log_joins given [] old.left a.more mid.left b.more new.left a.lawful b.lawful;
  spaced = spaced_joins (spacing_of old.lines) a.more b.more a.spaced
      (subst (λ (s : Spacing). AreRunsSpaced s b.more) (ap spacing_of a.lines ∙ fold-append spacing_after first_spacing old.lines a.more) b.spaced);
  few = few;
}

pub begun_more : (max : ℕ) (given : List Clause) (conflicts limit : ℕ) (solver new : SolverView) (log after : LogView) → IsBegun max given conflicts solver log → limit ≤ conflicts - lemmas log → new.max ≡ solver.max → OnlyAdds log after →
    Continues solver.max solver.live limit log after → All (IsClauseInRange solver.max) after.left → SameLive new.live (after.left ++ solver.live) → IsBegun max given conflicts new after
begun_more max given conflicts limit solver new log after h room same adds goes range now =
    let here = subst (λ m. Continues m solver.live limit log after) h.kept.max_is goes in
    let mine = continues_kept max given solver.live limit log after h.kept.live adds here in
    let few : lemmas log ≤ 0 + conflicts = h.lemmas_only.few in
    let more : lemmas after ≤ lemmas log + limit = goes.few in
    record {
      lemmas_only = continues_on max given conflicts limit conflicts empty log after h.lemmas_only mine (omega arith);
      kept = record {
        max_is = same ∙ h.kept.max_is;
        live = live_kept max given solver.live limit log after h.kept.live adds here new.live now;
        in_range = subst (λ m. All (IsClauseInRange m) after.left) h.kept.max_is range;
      };
    }

-- what a call asks of a solver and its log
pub begun_range : (max : ℕ) (given : List Clause) (conflicts : ℕ) (solver : SolverView) (log : LogView) → IsBegun max given conflicts solver log → All (IsClauseInRange solver.max) log.left
begun_range max given conflicts solver log h = subst (λ m. All (IsClauseInRange m) log.left) (sym h.kept.max_is) h.kept.in_range

pub begun_known : (max : ℕ) (given : List Clause) (conflicts : ℕ) (solver : SolverView) (log : LogView) → IsBegun max given conflicts solver log → (c : Clause) → Contains log.left c → Contains solver.live c
begun_known max given conflicts solver log h = left_live solver.live log.left given h.kept.live

pub begun_few : (max : ℕ) (given : List Clause) (conflicts : ℕ) (solver : SolverView) (log : LogView) → IsBegun max given conflicts solver log → lemmas log ≤ conflicts
begun_few max given conflicts solver log h = let few : lemmas log ≤ 0 + conflicts = h.lemmas_only.few in omega arith

-- what stays live, and what follows from it
pub live_stays : (old new : List Clause) (log : LogView) → SameLive new (log.left ++ old) → Within old new
live_stays old new log same c i = same.back c (Contains-append_right log.left old c i)

pub shown_now : (old new : List Clause) (log : LogView) (x y a b : ℤ) (shown : Bool) → SameLive new (log.left ++ old) → x ≡ a → y ≡ b → IsShownByLog old (x ∷ y ∷ []) log shown → IsTrue shown → IsRup new (a ∷ b ∷ [])
shown_now old new log x y a b true same first second r holds =
    let live : List Clause = log.left ++ old in
    rup_within live new (a ∷ b ∷ []) same.back (subst (λ (l : ℤ). IsRup live (l ∷ b ∷ [])) first (subst (λ (l : ℤ). IsRup live (x ∷ l ∷ [])) second r))
shown_now old new log x y a b false same first second r holds = absurd (true≢false (sym holds))

pub both_shown : {M : Type 0} (mid new : List Clause) (a b : Clause) (r : Result Bool M) → IsRup mid a → OnOk r (Within mid new) → IfOk r (λ s. IsTrue s → IsRup new b) → IfOk r (λ s. IsTrue s → IsRup new a × IsRup new b)
both_shown mid new a b (Ok s) first keeps second = λ yes. (rup_within mid new a keeps first, second yes)
both_shown mid new a b (Err m) first keeps second = tt

-- Before the first goal.
pub so_far_begun : (e : Extended) (given goals : List Clause) (conflicts : ℕ) (solver : SolverView) (log : LogView) → AreOver e solver.max given goals → IsBegun solver.max given conflicts solver log → IsSoFar e conflicts 0 log
so_far_begun e given goals conflicts solver log over h =
    let c = h.lemmas_only in
    let few = begun_few solver.max given conflicts solver log h in
    record {
      lemmas_are = lemmas log;
      few = few;
      log_is = record {
        some = omega arith;
        refuted = subst (λ (gs : List Clause). AreRefuted (gate_clauses e.gates) [] gs log.lines log.left) (sym (take_none (unmet_goals e)))
            (log_over given (gate_clauses e.gates) [] [] log.lines log.left over.clauses_are (subst (λ (z : List ClauseLine). AreLogLines given [] [] z log.left) (sym c.lines) c.lawful));
        spaced = subst (AreRunsSpaced first_spacing) (sym c.lines) c.spaced;
        exactly = omega arith;
        in_range = subst (λ m. All (Ranged m) log.lines) (sym over.max_is) (subst (All (Ranged solver.max)) (sym c.lines) c.in_range);
      };
    }
