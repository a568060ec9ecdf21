-- The clauses of gates hold just on their evaluations, and the goals of a column just where its outputs are equal.
use Rattle.std.specs.Prelude.{◌≡◌, ◌≢◌, ℕ, zero, suc, ◌/◌, ◌%◌, ◌<◌, ◌≤◌, Bool, true, false, not, cond, ◌&&◌, ◌||◌, List, [], ◌∷◌, ℤ, pos, neg_ℤ, nat_abs, ◌==◌}
use Rattle.std.specs.declared.option.Option.{Option}
use Rattle.std.specs.declared.option.Option.TheVariants.{None, Some}
use Rattle.std.specs.Option.{option_map}
use Rattle.std.specs.List.{All, AllByRecursion, list_any, flat_map, filter_map, cons_option}
use Rattle.std.proofs.Common.{refl, sym, ap, ap₂, subst, ◌∙◌, arith, eqb-true}
use Rattle.std.proofs.lemmas.Bool.{eqb-false}
use Rattle.std.proofs.lemmas.List.Elements.{All-from_recursion, recursion_from_All}
use Rattle.graph_core.specs.declared.literal.Lit.{Lit}
use Rattle.graph_core.specs.declared.gate.Gate.{Gate}
use Rattle.graph_core.specs.Graph.Literals.{variable_of, negation_of, inverted, plain}
use Rattle.graph_core.specs.Graph.Assignments.{Assignment, variable, literal}
use Rattle.graph_core.specs.Graph.{IsEvaluation}
use Rattle.graph_core.specs.Graph.Extended.{Column}
use Rattle.graph_core.proofs.OfGraphs.CallerLemmas.{literal-even, literal-negated, literal-odd, variable_of-negated}
use Rattle.clause_core.specs.Clause.{Clause, signed, holds, HasSigns, IsClauseInRange}
use Rattle.clause_core.specs.GateClauses.{signed_of, clause_of, gate_literals, gate_clauses, goals_of, IsMet, IsGoalInRange, GateClausesMeanEvaluation, GoalsMeanEquality, GateClausesAreInRange, GoalsAreInRange}

-- the value of the literal of a number
abbrev literal_at : Assignment → ℕ → Bool
literal_at σ n = cond (n % 2 == 0) (variable σ (n / 2)) (not (variable σ (n / 2)))

literal-one : (σ : Assignment) (l : Lit) → (l.0 == 1) ≡ true → literal σ l ≡ true
literal-one σ l h = ap (literal_at σ) (eqb-true l.0 1 h)

literal-zero : (σ : Assignment) (l : Lit) → (l.0 == 0) ≡ true → literal σ l ≡ false
literal-zero σ l h = ap (literal_at σ) (eqb-true l.0 0 h)

signed-minus : (σ : Assignment) (v : ℕ) → 0 < v → signed σ (neg_ℤ (pos v)) ≡ not (variable σ v)
signed-minus σ zero h = absurd (omega arith)
signed-minus σ (suc v) h = refl

signed-signed_of : (σ : Assignment) (l : Lit) → 0 < variable_of l → signed σ (signed_of l) ≡ literal σ l
signed-signed_of σ l h =
    elim (l.0 % 2 == 0) as (λ b. signed σ (cond b (pos (variable_of l)) (neg_ℤ (pos (variable_of l)))) ≡ cond b (variable σ (variable_of l)) (not (variable σ (variable_of l))))
    [ true ↦ refl | false ↦ signed-minus σ (variable_of l) h ]

minus_signed : (v : ℕ) → 0 < v → neg_ℤ (pos v) ≢ pos 0
minus_signed zero h e = absurd (omega arith)
minus_signed (suc v) h e = cc

signed_of_signed : (l : Lit) → 0 < variable_of l → signed_of l ≢ pos 0
signed_of_signed l h =
    elim (l.0 % 2 == 0) as (λ b. cond b (pos (variable_of l)) (neg_ℤ (pos (variable_of l))) ≢ pos 0)
    [ true ↦ (λ e. let same : variable_of l ≡ 0 = cc in absurd (omega arith)) | false ↦ minus_signed (variable_of l) h ]

-- What `clause_of` gives for some literals: a clause that holds where one of them does, or no clause, where one of them always does.
abbrev pub Stands : List Lit → Option Clause → Type 0
Stands ls None = (σ : Assignment) → list_any (literal σ) ls ≡ true
Stands ls (Some c) = AllByRecursion (λ l. l ≢ pos 0) c × ((σ : Assignment) → holds σ c ≡ list_any (literal σ) ls)

stands_more : (l : Lit) (ls : List Lit) (o : Option Clause) → 0 < variable_of l → Stands ls o → Stands (l ∷ ls) (option_map (λ c. signed_of l ∷ c) o)
stands_more l ls None h s = λ σ. ap (λ b. literal σ l || b) (s σ) ∙ or_true (literal σ l)
  where
    or_true : (b : Bool) → (b || true) ≡ true
    or_true true = refl
    or_true false = refl
stands_more l ls (Some c) h s = ((signed_of_signed l h, s.0), λ σ. ap₂ ◌||◌ (signed-signed_of σ l h) (s.1 σ))

stands_less : (l : Lit) (ls : List Lit) (o : Option Clause) → (l.0 == 0) ≡ true → Stands ls o → Stands (l ∷ ls) o
stands_less l ls None h s = λ σ. ap (λ b. b || list_any (literal σ) ls) (literal-zero σ l h) ∙ s σ
stands_less l ls (Some c) h s = (s.0, λ σ. s.1 σ ∙ sym (ap (λ b. b || list_any (literal σ) ls) (literal-zero σ l h)))

pub clause_of_stands : (ls : List Lit) → Stands ls (clause_of ls)
clause_of_stands [] = (tt, λ σ. refl)
clause_of_stands (l ∷ ls) = go (l.0 == 1) refl (l.0 == 0) refl (clause_of_stands ls)
  where
    go : (b : Bool) → (l.0 == 1) ≡ b → (z : Bool) → (l.0 == 0) ≡ z → Stands ls (clause_of ls) → Stands (l ∷ ls) (cond b None (cond z (clause_of ls) (option_map (λ c. signed_of l ∷ c) (clause_of ls))))
    go true e z f s = λ σ. ap (λ b. b || list_any (literal σ) ls) (literal-one σ l e)
    go false e true f s = stands_less l ls (clause_of ls) f s
    go false e false f s =
        let no_one = eqb-false l.0 1 e in
        let no_zero = eqb-false l.0 0 f in
        stands_more l ls (clause_of ls) (omega arith) s

-- a clause made of literals holds where one of them is true
some_holds : (σ : Assignment) (ls : List Lit) (o : Option Clause) → Stands ls o → list_any (literal σ) ls ≡ true → AllByRecursion (λ c. HasSigns c × (holds σ c ≡ true)) (cons_option o [])
some_holds σ ls None s h = tt
some_holds σ ls (Some c) s h = ((All-from_recursion (λ l. l ≢ pos 0) c s.0, s.1 σ ∙ h), tt)

-- each of some lists of literals has a true one
abbrev AllTrue : Assignment → List (List Lit) → Type 0
AllTrue σ lists = AllByRecursion (λ ls. list_any (literal σ) ls ≡ true) lists

cons_holds : (P : Clause → Type 0) (o : Option Clause) (cs : List Clause) → AllByRecursion P (cons_option o []) → AllByRecursion P cs → AllByRecursion P (cons_option o cs)
cons_holds P None cs a b = b
cons_holds P (Some c) cs a b = (a.0, b)

clauses_hold : (σ : Assignment) (lists : List (List Lit)) → AllTrue σ lists → AllByRecursion (λ c. HasSigns c × (holds σ c ≡ true)) (filter_map clause_of lists)
clauses_hold σ [] h = tt
clauses_hold σ (ls ∷ lists) h = cons_holds (λ c. HasSigns c × (holds σ c ≡ true)) (clause_of ls) (filter_map clause_of lists) (some_holds σ ls (clause_of ls) (clause_of_stands ls) h.0) (clauses_hold σ lists h.1)

-- the three clauses of v = a AND b
three_true : (v a b na nb nv : Bool) → v ≡ (a && b) → na ≡ not a → nb ≡ not b → nv ≡ not v →
    ((nv || (a || false)) ≡ true) × ((nv || (b || false)) ≡ true) × ((v || (na || (nb || false))) ≡ true)
three_true v a b na nb nv ve nae nbe nve = subst (λ x. ((x || (a || false)) ≡ true) × ((x || (b || false)) ≡ true) × ((v || (na || (nb || false))) ≡ true)) (sym (nve ∙ ap not ve))
    (subst (λ x. ((not (a && b) || (a || false)) ≡ true) × ((not (a && b) || (b || false)) ≡ true) × ((x || (na || (nb || false))) ≡ true)) (sym ve)
    (subst (λ x. ((not (a && b) || (a || false)) ≡ true) × ((not (a && b) || (b || false)) ≡ true) × (((a && b) || (x || (nb || false))) ≡ true)) (sym nae)
    (subst (λ x. ((not (a && b) || (a || false)) ≡ true) × ((not (a && b) || (b || false)) ≡ true) × (((a && b) || (not a || (x || false))) ≡ true)) (sym nbe) (table a b))))
  where
    table : (x y : Bool) → ((not (x && y) || (x || false)) ≡ true) × ((not (x && y) || (y || false)) ≡ true) × (((x && y) || (not x || (not y || false))) ≡ true)
    table true true = (refl, refl, refl)
    table true false = (refl, refl, refl)
    table false true = (refl, refl, refl)
    table false false = (refl, refl, refl)

gate_true : (σ : Assignment) (gates : List Gate) → AllByRecursion (λ g. variable σ g.v ≡ (literal σ g.left && literal σ g.right)) gates → AllTrue σ (flat_map gate_literals gates)
gate_true σ [] h = tt
gate_true σ (g ∷ gates) h =
    let v_is = literal-even σ (plain g.v) g.v refl in
    let not_v = literal-odd σ (inverted g.v) g.v refl in
    let t = three_true (literal σ (plain g.v)) (literal σ g.left) (literal σ g.right) (literal σ (negation_of g.left)) (literal σ (negation_of g.right)) (literal σ (inverted g.v))
    (v_is ∙ h.0) (literal-negated σ g.left) (literal-negated σ g.right) (not_v ∙ ap not (sym v_is)) in
    (t.0, (t.1, (t.2, gate_true σ gates h.1)))

-- The clauses of gates hold on each of their evaluations.
pub gate_clauses_hold : (σ : Assignment) (gates : List Gate) → IsEvaluation gates σ → AllByRecursion (λ c. HasSigns c × (holds σ c ≡ true)) (gate_clauses gates)
gate_clauses_hold σ gates h = clauses_hold σ (flat_map gate_literals gates) (gate_true σ gates (recursion_from_All _ gates h))

-- the literals of the gates' clauses have signs
signed_more : (ls : List Lit) (cs : List Clause) (o : Option Clause) → Stands ls o → AllByRecursion HasSigns cs → AllByRecursion HasSigns (cons_option o cs)
signed_more ls cs None s h = h
signed_more ls cs (Some c) s h = (All-from_recursion (λ l. l ≢ pos 0) c s.0, h)

clauses_signed : (lists : List (List Lit)) → AllByRecursion HasSigns (filter_map clause_of lists)
clauses_signed [] = tt
clauses_signed (ls ∷ lists) = signed_more ls (filter_map clause_of lists) (clause_of ls) (clause_of_stands ls) (clauses_signed lists)

pub gate_clauses_signed : (gates : List Gate) → AllByRecursion HasSigns (gate_clauses gates)
gate_clauses_signed gates = clauses_signed (flat_map gate_literals gates)

-- ---- the clauses of gates hold on evaluations alone

satisfied_true : (σ : Assignment) (lists : List (List Lit)) → AllByRecursion (λ c. holds σ c ≡ true) (filter_map clause_of lists) → AllTrue σ lists
satisfied_true σ [] h = tt
satisfied_true σ (ls ∷ lists) h = let both = step (clause_of ls) (clause_of_stands ls) h in (both.0, satisfied_true σ lists both.1)
  where
    step : (o : Option Clause) → Stands ls o → AllByRecursion (λ c. holds σ c ≡ true) (cons_option o (filter_map clause_of lists)) → (list_any (literal σ) ls ≡ true) × AllByRecursion (λ c. holds σ c ≡ true) (filter_map clause_of lists)
    step None s k = (s σ, k)
    step (Some c) s k = (sym (s.1 σ) ∙ k.0, k.1)

and_table : (v a b : Bool) → (not v || (a || false)) ≡ true → (not v || (b || false)) ≡ true → (v || (not a || (not b || false))) ≡ true → v ≡ (a && b)
and_table true true true p q r = refl
and_table true true false p q r = sym q
and_table true false b p q r = sym p
and_table false true true p q r = r
and_table false true false p q r = refl
and_table false false b p q r = refl

true_gate : (σ : Assignment) (gates : List Gate) → AllTrue σ (flat_map gate_literals gates) → AllByRecursion (λ g. variable σ g.v ≡ (literal σ g.left && literal σ g.right)) gates
true_gate σ [] h = tt
true_gate σ (g ∷ gates) h =
    let v_is = literal-even σ (plain g.v) g.v refl in
    let not_v = literal-odd σ (inverted g.v) g.v refl in (
      and_table (variable σ g.v) (literal σ g.left) (literal σ g.right)
          (ap (λ x. x || (literal σ g.left || false)) (sym not_v) ∙ h.0)
          (ap (λ x. x || (literal σ g.right || false)) (sym not_v) ∙ h.1.0)
          (ap₂ (λ x y. x || (y || (not (literal σ g.right) || false))) (sym v_is) (sym (literal-negated σ g.left)) ∙
          ap (λ y. literal σ (plain g.v) || (literal σ (negation_of g.left) || (y || false))) (sym (literal-negated σ g.right)) ∙ h.1.1.0),
      true_gate σ gates h.1.1.1,
    )

pub gate_clauses_mean_evaluation : GateClausesMeanEvaluation
gate_clauses_mean_evaluation gates σ = (
  λ h. All-from_recursion (λ g. variable σ g.v ≡ (literal σ g.left && literal σ g.right)) gates (true_gate σ gates (satisfied_true σ (flat_map gate_literals gates) (recursion_from_All (λ c. holds σ c ≡ true) (gate_clauses gates) h))),
  λ h. (λ k d l. (All-from_recursion (λ c. HasSigns c × (holds σ c ≡ true)) (gate_clauses gates) (gate_clauses_hold σ gates h) k d l).1),
)

-- ---- goals

both_ways : (o r not_o not_r : Bool) → not_o ≡ not o → not_r ≡ not r → (not_o || (r || false)) ≡ true → (o || (not_r || false)) ≡ true → o ≡ r
both_ways o r not_o not_r noe nre f g = table o r (sym (ap (λ x. x || (r || false)) noe) ∙ f) (sym (ap (λ x. o || (x || false)) nre) ∙ g)
  where
    table : (x y : Bool) → (not x || (y || false)) ≡ true → (x || (not y || false)) ≡ true → x ≡ y
    table true true a b = refl
    table true false a b = sym a
    table false true a b = b
    table false false a b = refl

equal_ways : (o r not_o not_r : Bool) → not_o ≡ not o → not_r ≡ not r → o ≡ r → ((not_o || (r || false)) ≡ true) × ((o || (not_r || false)) ≡ true)
equal_ways o r not_o not_r noe nre same =
    (ap (λ x. x || (r || false)) (noe ∙ ap not same) ∙ first r, ap (λ x. o || (x || false)) (nre ∙ ap not (sym same)) ∙ second o)
  where
    first : (x : Bool) → (not x || (x || false)) ≡ true
    first true = refl
    first false = refl

    second : (x : Bool) → (x || (not x || false)) ≡ true
    second true = refl
    second false = refl

-- a goal is met just where one of its literals is true
met_true : (σ : Assignment) (ls : List Lit) (o : Option Clause) → Stands ls o → IsMet σ o → list_any (literal σ) ls ≡ true
met_true σ ls None s h = s σ
met_true σ ls (Some c) s h = sym (s.1 σ) ∙ (recursion_from_All (λ d. holds σ d ≡ true) (c ∷ []) h).0

true_met : (σ : Assignment) (ls : List Lit) (o : Option Clause) → Stands ls o → list_any (literal σ) ls ≡ true → IsMet σ o
true_met σ ls None s h = tt
true_met σ ls (Some c) s h = All-from_recursion (λ d. holds σ d ≡ true) (c ∷ []) (s.1 σ ∙ h, tt)

abbrev first_goal : Column → List Lit
first_goal c = negation_of c.old ∷ c.new ∷ []

abbrev second_goal : Column → List Lit
second_goal c = c.old ∷ negation_of c.new ∷ []

pub goals_agree : (c : Column) (σ : Assignment) → All (IsMet σ) (goals_of c) → literal σ c.old ≡ literal σ c.new
goals_agree c σ met =
    let goals = recursion_from_All (IsMet σ) (goals_of c) met in
    both_ways (literal σ c.old) (literal σ c.new) (literal σ (negation_of c.old)) (literal σ (negation_of c.new)) (literal-negated σ c.old) (literal-negated σ c.new)
    (met_true σ (first_goal c) (clause_of (first_goal c)) (clause_of_stands (first_goal c)) goals.0)
    (met_true σ (second_goal c) (clause_of (second_goal c)) (clause_of_stands (second_goal c)) goals.1.0)

pub goals_mean_equality : GoalsMeanEquality
goals_mean_equality c σ = (goals_agree c σ, back)
  where
    back : literal σ c.old ≡ literal σ c.new → All (IsMet σ) (goals_of c)
    back same =
        let both = equal_ways (literal σ c.old) (literal σ c.new) (literal σ (negation_of c.old)) (literal σ (negation_of c.new)) (literal-negated σ c.old) (literal-negated σ c.new) same in
        All-from_recursion (IsMet σ) (goals_of c) (true_met σ (first_goal c) (clause_of (first_goal c)) (clause_of_stands (first_goal c)) both.0, (true_met σ (second_goal c) (clause_of (second_goal c)) (clause_of_stands (second_goal c)) both.1, tt))

-- ---- ranges

module _ (max : ℕ) where
  abbrev InRange : ℤ → Type 0
  InRange l = (l ≢ pos 0) × (nat_abs l ≤ max)

  signed_in_range : (l : Lit) → 0 < variable_of l → variable_of l ≤ max → InRange (signed_of l)
  signed_in_range l some low = (signed_of_signed l some, go (l.0 % 2 == 0))
    where
      minus : (v : ℕ) → v ≤ max → nat_abs (neg_ℤ (pos v)) ≤ max
      minus zero h = h
      minus (suc v) h = h

      go : (b : Bool) → nat_abs (cond b (pos (variable_of l)) (neg_ℤ (pos (variable_of l)))) ≤ max
      go true = low
      go false = minus (variable_of l) low

  abbrev GoalFits : Option Clause → Type 0
  GoalFits None = Unit {0}
  GoalFits (Some c) = AllByRecursion InRange c

  one_more : (l : Lit) (o : Option Clause) → InRange (signed_of l) → GoalFits o → GoalFits (option_map (λ c. signed_of l ∷ c) o)
  one_more l None a h = tt
  one_more l (Some c) a h = (a, h)

  pub clause_of_fits : (ls : List Lit) → AllByRecursion (λ l. variable_of l ≤ max) ls → GoalFits (clause_of ls)
  clause_of_fits [] h = tt
  clause_of_fits (l ∷ ls) h = go (l.0 == 1) refl (l.0 == 0) refl (clause_of_fits ls h.1)
    where
      go : (b : Bool) → (l.0 == 1) ≡ b → (z : Bool) → (l.0 == 0) ≡ z → GoalFits (clause_of ls) → GoalFits (cond b None (cond z (clause_of ls) (option_map (λ c. signed_of l ∷ c) (clause_of ls))))
      go true e z f s = tt
      go false e true f s = s
      go false e false f s =
          let no_one = eqb-false l.0 1 e in
          let no_zero = eqb-false l.0 0 f in
          one_more l (clause_of ls) (signed_in_range l (omega arith) h.0) s

  kept : (o : Option Clause) (cs : List Clause) → GoalFits o → AllByRecursion (IsClauseInRange max) cs → AllByRecursion (IsClauseInRange max) (cons_option o cs)
  kept None cs a b = b
  kept (Some c) cs a b = (All-from_recursion InRange c a, b)

  lists_fit : (lists : List (List Lit)) → AllByRecursion (λ ls. AllByRecursion (λ l. variable_of l ≤ max) ls) lists → AllByRecursion (IsClauseInRange max) (filter_map clause_of lists)
  lists_fit [] h = tt
  lists_fit (ls ∷ lists) h = kept (clause_of ls) (filter_map clause_of lists) (clause_of_fits ls h.0) (lists_fit lists h.1)

  gates_fit : (gates : List Gate) → AllByRecursion (λ x. (1 ≤ x.v) × (x.v ≤ max)) gates → AllByRecursion (λ x. (variable_of x.left ≤ max) × (variable_of x.right ≤ max)) gates →
      AllByRecursion (λ ls. AllByRecursion (λ l. variable_of l ≤ max) ls) (flat_map gate_literals gates)
  gates_fit [] a b = tt
  gates_fit (x ∷ gates) a b =
      let low = a.0.1 in
      let left = b.0.0 in
      let right = b.0.1 in
      let no_left = variable_of-negated x.left in
      let no_right = variable_of-negated x.right in
      let more = gates_fit gates a.1 b.1 in
      ((omega arith, (left, tt)), ((omega arith, (right, tt)), ((omega arith, (omega arith, (omega arith, tt))), more)))

  goal_fits : (o : Option Clause) → GoalFits o → IsGoalInRange max o
  goal_fits None h = tt
  goal_fits (Some c) h = All-from_recursion InRange c h

pub gate_clauses_are_in_range : GateClausesAreInRange
gate_clauses_are_in_range max gates within =
    All-from_recursion (IsClauseInRange max) (gate_clauses gates)
    (lists_fit max (flat_map gate_literals gates)
    (gates_fit max gates (recursion_from_All (λ x. (1 ≤ x.v) × (x.v ≤ max)) gates within.own) (recursion_from_All (λ x. (variable_of x.left ≤ max) × (variable_of x.right ≤ max)) gates within.operands)))

pub goals_are_in_range : GoalsAreInRange
goals_are_in_range max c old new =
    let no_old = variable_of-negated c.old in
    let no_new = variable_of-negated c.new in
    All-from_recursion (IsGoalInRange max) (goals_of c) (
      goal_fits max (clause_of (first_goal c)) (clause_of_fits max (first_goal c) (omega arith, (new, tt))),
      (goal_fits max (clause_of (second_goal c)) (clause_of_fits max (second_goal c) (old, (omega arith, tt))), tt),
    )
