-- The turns of judging a clause file: the first line, each next one, and where it ends.
use Rattle.std.specs.Prelude.{◌≡◌, ℕ, ◌+◌, ◌<◌, ◌≤◌, ◌^◌, false, List, [], ◌∷◌, ◌++◌, length, IfSome, Err}
use Rattle.std.specs.List.{All, AllByRecursion, Any}
use Rattle.std.specs.declared.option.Option.{Option}
use Rattle.std.specs.declared.option.Option.TheVariants.{None, Some}
use Rattle.std.proofs.Common.{refl, sym, ap, subst, ◌∙◌, arith, length-append}
use Rattle.std.proofs.Math.Nat.{le_trans}
use Rattle.std.proofs.lemmas.List.Elements.{All-from_recursion, recursion_from_All}
use Rattle.graph_core.specs.Graph.Extended.{AgreeOnColumns, Column, Extended}
use Rattle.graph_core.specs.declared.gate.Gate.{Gate}
use Rattle.mv_fact.specs.Always.{Always}
use Rattle.clause_core.specs.Clause.{Clause, IsClauseInRange}
use Rattle.clause_core.specs.ClauseLines.{AreGoalsShown, ClauseLine, IsShown, clause_in}
use Rattle.clause_core.specs.GateClauses.{gate_clauses, goals_of}
use Rattle.clause_core.specs.Likeness.{AreSameSets}
use Rattle.clause_core.specs.declared.line.Line.TheVariants.{Add, Delete}
use Rattle.clause_core.proofs.CallerLemmas.{any_nil}
use Rattle.drup_checker.specs.Checking.{Checking, IsLeastUnshown, Starts}
use Rattle.drup_checker.specs.declared.keeps.Keeps.{Keeps}
use Rattle.mv_text.specs.CertificateFiles.{FileState, GoesOn, left_of_file}
use Rattle.miter_encoder.specs.ColumnGoals.{AreGoalsOf, HasGoals, IsGoalOf}
use Rattle.miter_encoder.specs.declared.goal.Goal.{Goal}
use Rattle.command_core.specs.declared.stop.Stop.TheVariants as stop
use Rattle.mv_desk.specs.View.{View}
use Rattle.mv_desk.specs.declared.slot.Slot.TheVariants as slot
use Rattle.clause_judge.specs.declared.fail.ClauseFail.{ClauseFail}
use Rattle.clause_judge.specs.declared.fail.ClauseFail.TheVariants as fail
use Rattle.clause_judge.specs.ClauseBody.{AreClausesJudged, BeginsBody, BeginsSomewhere, HasJudgedClauses, HasPassed, IsAtHand, IsClauseReached, IsFailFrom, IsOver, IsRestFail, IsSameTask, IsShownFrom, IsShownWith, JoinsFrom, KeepsClauseTask, ShowsFrom}
use Rattle.clause_judge.specs.ClauseLines.{IsGoalFail, IsRuleFail, IsTextFail, NextLine, ReadsNext, TakesClauseLine}
use Rattle.clause_judge.specs.Taking.{IsShownOver}
use Rattle.clause_judge.specs.declared.judging.JudgeClauses.{JudgeClauses}
use Rattle.clause_judge.proofs.CheckerBegins.{none_kept, range_of}
use Rattle.clause_judge.proofs.CheckerBegins.{begins as checker_begins}
use Rattle.clause_judge.proofs.ClauseReached as reached
use Rattle.clause_judge.proofs.ClauseReached.{begins}
use Rattle.clause_judge.proofs.Joins.{goals_join_columns, goals_show, lines_join_columns, taken_show}
use Rattle.clause_judge.proofs.Told.{told_more}

-- a line that is taken leaves the task
pub takes_task : (x : ClauseLine) (k k' : Checking) → TakesClauseLine x k k' → KeepsClauseTask k k'
takes_task (Add c) k k' h = record { gates = h.gates; max = h.max; goals = h.goals; keeps = h.keeps }
takes_task (Delete c) k k' h = record { gates = h.gates; max = h.max; goals = h.goals; keeps = h.keeps }

pub task_stays : {a b : Checking} → b ≡ a → KeepsClauseTask a b
task_stays is = record { gates = ap (λ (k : Checking). k.gates) is; max = ap (λ (k : Checking). k.max) is; goals = ap (λ (k : Checking). k.goals) is; keeps = ap (λ (k : Checking). k.keeps) is }

task_trans : {a b c : Checking} → KeepsClauseTask a b → KeepsClauseTask b c → KeepsClauseTask a c
task_trans p q = record { gates = q.gates ∙ p.gates; max = q.max ∙ p.max; goals = q.goals ∙ p.goals; keeps = q.keeps ∙ p.keeps }

-- a line that was read is in range, and the file goes on
pub at_hand : (max : ℕ) (old new : FileState) (left behind : Option (List ℕ)) (next : Option ClauseLine) → ReadsNext max old new left behind next → IsAtHand max new next
at_hand max old new left behind None h = tt
at_hand max old new left behind (Some line) h = (range_of max h.text line h.same h.in_range, h.going)

-- there is no replaced column without goals
no_columns : (columns : List Column) (P : Column → Type 0) → All (HasGoals []) columns → All P columns
no_columns columns P h = All-from_recursion P columns (go columns (recursion_from_All (HasGoals []) columns h))
  where
    go : (cs : List Column) → AllByRecursion (HasGoals []) cs → AllByRecursion P cs
    go [] k = tt
    go (c ∷ cs) k = absurd (any_nil _ (recursion_from_All (λ o. Any (IsGoalOf c.number o) []) (goals_of c) k.0).0)

module _ (e : Extended) (start : FileState) (body : Option (List ℕ)) where
  abbrev Fails : View → View → ClauseFail → Type 0
  Fails first now answer = IsRestFail (start.number + 1) e start.lines body first now answer

  -- ---- the first line

  pub first_fails : (before now : View) (answer : ClauseFail) → IsTextFail (start.number + 1) e.max start.lines body before now answer → Fails before now answer
  first_fails before now answer h =
      reached.text_fails e start body [] (gate_clauses e.gates) start body (begins e start body) (start.number + 1) before before now answer (omega arith) (omega arith) h

  pub first_reached : (k : Checking) (next : Option ClauseLine) (file : FileState) (left : Option (List ℕ)) → BeginsBody e k start file body left next → IsClauseReached e start body k 0 next file left
  first_reached k next file left b = record {
    xs = [];
    live = gate_clauses e.gates;
    before = start;
    ahead = body;
    turns = refl;
    taken = b.taken;
    stands = begins e start body;
    lengths = b.lengths;
    read = b.read;
  }

  -- a new checker over these gates and goals, where the first line was read with the greatest variable of the gates
  pub begins_with : (max : ℕ) (gates : List Gate) (goals : List Goal) → IsOver max gates goals e → (k : Checking) (cs : List Clause) (keeps : Keeps) (next : Option ClauseLine) (file : FileState) (left : Option (List ℕ)) →
      Starts gates max cs goals keeps k → All (λ b. b ≡ false) k.shown → AreSameSets cs (gate_clauses gates) → file.lines.lengths ≡ start.lines.lengths → start.lines.lengths.file < 2 ^ 64 →
      ReadsNext max start file body left next → BeginsBody e k start file body left next
  begins_with max gates goals over k cs keeps next file left starts none clauses lengths limit read = record {
    taken = checker_begins e cs k (subst (λ (gs : List Gate). AreSameSets cs (gate_clauses gs)) (sym over.gates_are) clauses) starts.live_is starts.added_is none;
    max = starts.max_is ∙ over.max_is;
    goals = subst (AreGoalsOf e) (sym starts.goals_are) over.goals_are;
    lengths = lengths;
    limit = limit;
    read = subst (λ (n : ℕ). ReadsNext n start file body left next) over.max_is read;
  }

  -- there is no line and no goal
  module _ (goals : List Goal) (of : AreGoalsOf e goals) (none : goals ≡ []) where
    nothing_shown : AreGoalsShown [] e
    nothing_shown = no_columns e.replaced (λ c. All (IsShown []) (goals_of c)) (subst (λ (gs : List Goal). All (HasGoals gs) e.replaced) none of.all)

    pub nothing_joined : Always e.gates (AgreeOnColumns e)
    nothing_joined = lines_join_columns e [] (gate_clauses e.gates) refl nothing_shown

    pub nothing_over : (keeps : Keeps) → IsShownOver e keeps []
    nothing_over keeps = record { lines = []; lawful = taken_show e [] (gate_clauses e.gates) refl nothing_shown; same = none_kept keeps }

    pub nothing_passed : (keeps : Keeps) (file : FileState) (left : Option (List ℕ)) → ReadsNext e.max start file body left None → IfSome body (IsShownWith e start.lines keeps [] 0)
    nothing_passed keeps file left read = told_more body (HasPassed e start.lines []) (IsShownWith e start.lines keeps [] 0) (λ bytes passed. ([], passed, nothing_shown, none_kept keeps, refl))
        (reached.ends e start body [] (gate_clauses e.gates) start body (begins e start body) read)

-- ---- since a start

-- no line is judged yet
pub none_judged : (it : JudgeClauses) (first : View) → it.max < 2 ^ 31 → it.checker.now.max ≡ it.max → BeginsSomewhere it.checker.now it.next.now it.file.now (left_of_file slot.Clauses it.file.now first) → HasJudgedClauses it first 0 it first
none_judged it first small greatest some =
    let left = left_of_file slot.Clauses it.file.now first in
    record {
      same = record { checker = refl; file = refl; task = record { gates = refl; max = refl; goals = refl; keeps = refl } };
      small = small;
      greatest = greatest;
      at_hand = subst (λ (m : ℕ). IsAtHand m it.file.now it.next.now) (sym some.3.max ∙ greatest) (at_hand some.0.max some.1 it.file.now some.2 left it.next.now some.3.read);
      reached = λ e file body b. first_reached e file body it.checker.now it.next.now it.file.now left b;
    }

module _ {start it : JudgeClauses} {first before : View} {count : ℕ} (judged : HasJudgedClauses start first count it before) where
  abbrev left : Option (List ℕ)
  left = left_of_file slot.Clauses it.file.now before

  abbrev Begins : Extended → FileState → Option (List ℕ) → Type 0
  Begins e file body = BeginsBody e start.checker.now file start.file.now body (left_of_file slot.Clauses start.file.now first) start.next.now

  abbrev FailsSince : View → ClauseFail → Type 0
  FailsSince now answer = IsFailFrom start.checker.now start.next.now start.file.now (left_of_file slot.Clauses start.file.now first) first now answer

  at : (next : Option ClauseLine) → it.next.now ≡ next → (e : Extended) (file : FileState) (body : Option (List ℕ)) → Begins e file body → IsClauseReached e file body it.checker.now count next it.file.now left
  at next is e file body b = subst (λ (n : Option ClauseLine). IsClauseReached e file body it.checker.now count n it.file.now left) is (judged.reached e file body b)

  max_is : (e : Extended) → start.checker.now.max ≡ e.max → it.max ≡ e.max
  max_is e is = sym judged.greatest ∙ judged.same.task.max ∙ is

  pub still_same : {last : JudgeClauses} → last.checker.ghost_name ≡ it.checker.ghost_name → last.file.ghost_name ≡ it.file.ghost_name → KeepsClauseTask it.checker.now last.checker.now → IsSameTask start last
  still_same checker file task = record { checker = checker ∙ judged.same.checker; file = file ∙ judged.same.file; task = task_trans judged.same.task task }

  -- ---- a line

  module _ (line : ClauseLine) (is : it.next.now ≡ Some line) where
    pub in_hand : IsClauseInRange it.max (clause_in line) × GoesOn it.file.now
    in_hand = subst (IsAtHand it.max it.file.now) is judged.at_hand

    number_is : (e : Extended) (file : FileState) (body : Option (List ℕ)) (r : IsClauseReached e file body it.checker.now count (Some line) it.file.now left) → it.file.now.number ≡ file.number + 1 + length r.xs
    number_is e file body r = let next : NextLine e.max r.before it.file.now r.ahead left line = r.read in omega (arith, next.number, r.stands.number)

    pub rule_fails : (now : View) (answer : ClauseFail) → IsRuleFail it.file.now.number line it.checker.now answer → FailsSince now answer
    rule_fails now answer h e file body b earlier later =
        let r = at (Some line) is e file body b in
        reached.rule_fails e file body r.xs r.live r.before r.ahead r.stands it.checker.now r.taken it.file.now left line r.read it.file.now.number earlier now answer (number_is e file body r) h

    module _ (k : Checking) (takes : TakesClauseLine line it.checker.now k) where
      pub text_fails : (now : View) (answer : ClauseFail) → first.read_faults ≤ before.read_faults → IsTextFail (it.file.now.number + 1) it.max it.file.now.lines left before now answer → FailsSince now answer
      text_fails now answer since h e file body b earlier later =
          let r = at (Some line) is e file body b in
          let next : NextLine e.max r.before it.file.now r.ahead left line = r.read in
          let s = reached.step e file body r.xs r.live r.before r.ahead r.stands it.checker.now r.taken it.file.now left line next k takes r.lengths in
          let more = length-append r.xs (next.text ∷ []) in
          reached.text_fails e file body (r.xs ++ next.text ∷ []) s.0 it.file.now left s.2 (it.file.now.number + 1) earlier before now answer (omega (arith, number_is e file body r, more)) (le_trans later since)
          (subst (λ (m : ℕ). IsTextFail (it.file.now.number + 1) m it.file.now.lines left before now answer) (max_is e b.max) h)

      pub next_reached : (then : Option ClauseLine) (new : FileState) (behind : Option (List ℕ)) → new.lines.lengths ≡ it.file.now.lines.lengths → ReadsNext it.max it.file.now new left behind then →
          (e : Extended) (file : FileState) (body : Option (List ℕ)) → Begins e file body → IsClauseReached e file body k (count + 1) then new behind
      next_reached then new behind lengths read e file body b =
          let r = at (Some line) is e file body b in
          let next : NextLine e.max r.before it.file.now r.ahead left line = r.read in
          let s = reached.step e file body r.xs r.live r.before r.ahead r.stands it.checker.now r.taken it.file.now left line next k takes r.lengths in
          record {
            xs = r.xs ++ next.text ∷ [];
            live = s.0;
            before = it.file.now;
            ahead = left;
            turns = omega (arith, length-append r.xs (next.text ∷ []), r.turns);
            taken = s.1;
            stands = s.2;
            lengths = lengths;
            read = subst (λ (m : ℕ). ReadsNext m it.file.now new left behind then) (max_is e b.max) read;
          }

  -- ---- the end

  module _ (is : it.next.now ≡ None) where
    same_goals : (e : Extended) → AreGoalsOf e start.checker.now.goals → AreGoalsOf e it.checker.now.goals
    same_goals e of = subst (AreGoalsOf e) (sym judged.same.task.goals) of

    pub all_shown : IsLeastUnshown it.checker.now.goals it.checker.now.shown None → IsShownFrom start.checker.now it.checker.now.added count start.next.now start.file.now (left_of_file slot.Clauses start.file.now first)
    all_shown none e file body b =
        let r = at None is e file body b in
        subst (λ (v : Keeps). IfSome body (IsShownWith e file.lines v it.checker.now.added count)) judged.same.task.keeps
        (subst (λ (n : ℕ). IfSome body (IsShownWith e file.lines it.checker.now.keeps it.checker.now.added n)) r.turns
        (reached.goals_shown e file body r.xs r.live r.before r.ahead r.stands it.checker.now r.taken (same_goals e b.goals) r.read none))

    pub all_over : IsLeastUnshown it.checker.now.goals it.checker.now.shown None → ShowsFrom start.checker.now it.checker.now.added start.next.now start.file.now (left_of_file slot.Clauses start.file.now first)
    all_over none e file body b =
        let r = at None is e file body b in
        subst (λ (v : Keeps). IsShownOver e v it.checker.now.added) judged.same.task.keeps (goals_show e r.xs r.live it.checker.now r.taken (same_goals e b.goals) none)

    pub all_joined : IsLeastUnshown it.checker.now.goals it.checker.now.shown None → JoinsFrom start.checker.now start.next.now start.file.now (left_of_file slot.Clauses start.file.now first)
    all_joined none e file body b = let r = at None is e file body b in goals_join_columns e r.xs r.live it.checker.now r.taken (same_goals e b.goals) none

    pub goals_fail : (now : View) (answer : ClauseFail) → IsGoalFail it.checker.now answer → FailsSince now answer
    goals_fail now answer h e file body b earlier later =
        let r = at None is e file body b in
        reached.goals_fail e file body r.xs r.live r.before r.ahead r.stands it.checker.now r.taken (same_goals e b.goals) r.read earlier now answer h

  pub too_many : 2 ^ 63 ≤ count → (now : View) → FailsSince now (fail.Stopped (stop.TooLong slot.Clauses))
  too_many many now e file body b earlier later =
      let r = judged.reached e file body b in
      let turns = r.turns in
      reached.too_many e file body r.xs r.live r.before r.ahead r.stands earlier now (omega (arith, many, turns)) b.limit

pub have_failed : {start last : JudgeClauses} {first now : View} {answer : ClauseFail} → IsSameTask start last → IsFailFrom start.checker.now start.next.now start.file.now (left_of_file slot.Clauses start.file.now first) first now answer →
    AreClausesJudged start first (Err answer) last now
have_failed same refused = record { same = same; lawful = tt; shown = tt; columns = tt; refused = refused }
