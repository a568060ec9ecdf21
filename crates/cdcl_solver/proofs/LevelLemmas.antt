-- The moments to which a search goes back.
use Rattle.std.specs.Prelude.{◌≡◌, ◌≢◌, ℕ, zero, suc, ◌-◌, ◌<◌, ◌≤◌, ◌⊎◌, List, [], ◌∷◌, ◌++◌, length, take, ℤ, pos, neg_ℤ, slice_index_or}
use Rattle.std.specs.declared.option.Option.{Option}
use Rattle.std.specs.declared.option.Option.TheVariants.{None, Some}
use Rattle.std.specs.List.{Contains}
use Rattle.std.proofs.Common.{refl, sym, ap, subst, ◌∙◌, arith, inl, inr, ⊎_elim, length-append}
use Rattle.std.proofs.lemmas.List.{take-append-le, get_or-take, length-take-le}
use Rattle.std.proofs.lemmas.List.Elements.{Contains-push_cases}
use Rattle.clause_core.specs.Clause.{Clause, IsSubset}
use Rattle.clause_core.specs.UnitPropagation.{IsFixpoint}
use Rattle.clause_core.proofs.Decided.{contains_nil}
use Rattle.clause_core.proofs.RupSoundness.{contains_cases}
use Rattle.clause_core.proofs.Places.{below_suc}
use Rattle.unit_prop.specs.Standing.{Standing, AreUnits, IsMark, IsPropagated, StandsAlone, at, back_at, clause_at, live_of, standing_more}
use Rattle.cdcl_solver.specs.Levels.{IsStage, IsLast, Keeps, AreTwoOpen, level_mark}
use Rattle.cdcl_solver.specs.Search.{GainsStanding}
use Rattle.cdcl_solver.proofs.Standings.{front, behind}
use Rattle.cdcl_solver.proofs.LoadLemmas.{live_push}
use Rattle.cdcl_solver.proofs.SearchLemmas.{first_covered, mark_grown}
use Rattle.clause_core.proofs.Places.{contains_at}

take_again : {X : Type 0} (n m : ℕ) (xs : List X) → n ≤ m → take n (take m xs) ≡ take n xs
take_again zero m xs b = refl
take_again (suc n) zero xs b = absurd (omega arith)
take_again (suc n) (suc m) [] b = refl
take_again (suc n) (suc m) (x ∷ xs) b = ap (λ ys. x ∷ ys) (take_again n m xs (omega arith))

-- what is found at a place is in the list
inside : {X : Type 0} (xs : List (Option X)) (i : ℕ) (x : X) → slice_index_or xs i None ≡ Some x → i < length xs
inside [] i x e = absurd (let f : None ≡ Some x = e in cc)
inside (y ∷ xs) zero x e = omega arith
inside (y ∷ xs) (suc i) x e = let b = inside xs i x e in omega arith

take_part : (n : ℕ) (xs : List ℤ) → n ≤ length xs → IsSubset (take n xs) xs
take_part n xs b = first_covered xs xs n b (λ j k. contains_at xs j (omega arith))

-- ---- the literals of unit clauses
units_take : (clauses : List (Option Clause)) (lits : List ℤ) (reasons : List (Option ℕ)) (u m : ℕ) → u ≤ m → m ≤ length lits → AreUnits clauses lits reasons u → AreUnits clauses (take m lits) (take m reasons) u
units_take clauses lits reasons u m a b h = record {
  within = omega (arith, length-take-le m lits b);
  by_unit = λ i k. let p = h.by_unit i k in
      (p.0, get_or-take m reasons i None (omega arith) ∙ p.1, subst (λ l. clause_at clauses p.0 ≡ Some (l ∷ [])) (sym (get_or-take m lits i (pos 0) (omega arith))) p.2);
  complete = λ r l e. let p = h.complete r l e in
      let same = get_or-take m lits p.0 (pos 0) (omega (arith, p.2)) in
      (p.0, p.1, p.2, get_or-take m reasons p.0 None (omega (arith, p.2)) ∙ p.3, ⊎_elim (λ x. inl (same ∙ x.0, x.1)) (λ x. inr (same ∙ x.0, x.1)) p.4);
}

units_more : (clauses : List (Option Clause)) (lits more : List ℤ) (reasons causes : List (Option ℕ)) (u : ℕ) → AreUnits clauses lits reasons u → AreUnits clauses (lits ++ more) (reasons ++ causes) u
units_more clauses lits more reasons causes u h = record {
  within = omega (arith, h.within, length-append lits more);
  by_unit = λ i k. let p = h.by_unit i k in
      (p.0, front reasons causes i None (inside reasons i p.0 p.1) ∙ p.1, subst (λ l. clause_at clauses p.0 ≡ Some (l ∷ [])) (sym (front lits more i (pos 0) (omega (arith, h.within)))) p.2);
  complete = λ r l e. let p = h.complete r l e in
      let same = front lits more p.0 (pos 0) (omega (arith, p.2, h.within)) in
      (p.0, p.1, p.2, front reasons causes p.0 None (inside reasons p.0 p.1 p.3) ∙ p.3, ⊎_elim (λ x. inl (same ∙ x.0, x.1)) (λ x. inr (same ∙ x.0, x.1)) p.4);
}

-- a clause of two literals is no unit clause
units_open : (clauses : List (Option Clause)) (lits : List ℤ) (reasons : List (Option ℕ)) (u : ℕ) (c : Clause) → ((l : ℤ) → c ≢ l ∷ []) → AreUnits clauses lits reasons u → AreUnits (clauses ++ Some c ∷ []) lits reasons u
units_open clauses lits reasons u c two h = record {
  within = h.within;
  by_unit = λ i k. let p = h.by_unit i k in (p.0, p.1, front clauses (Some c ∷ []) p.0 None (inside clauses p.0 (at lits i ∷ []) p.2) ∙ p.2);
  complete = λ r l e. ⊎_elim
      (λ b. h.complete r l (sym (front clauses (Some c ∷ []) r None b) ∙ e))
      (λ same. absurd (two l (let f : Some c ≡ Some (l ∷ []) = sym (behind clauses (Some c) None r same) ∙ e in cc)))
      (below_suc r (length clauses) (omega (arith, inside (clauses ++ Some c ∷ []) r (l ∷ []) e, length-append clauses (Some c ∷ []))));
}

two_not_one : (lits c : List ℤ) (two : ℤ × ℤ) → AreTwoOpen lits c two → (l : ℤ) → c ≢ l ∷ []
two_not_one lits c two h l e = h.1.1 (sym (one two.1 h.1.0) ∙ one two.0 h.0.0)
  where
    one : (k : ℤ) → Contains c k → l ≡ k
    one k has = ⊎_elim (λ s. s) (λ n. absurd (contains_nil k n)) (contains_cases l [] k (subst (λ (xs : List ℤ). Contains xs k) e has))

-- ---- stages

pub stage_back : (s : Standing) (base : ℕ) (marks : List ℕ) (m : ℕ) → IsStage s base marks → IsMark s m → ((i : ℕ) → i < length marks → level_mark marks i ≤ m) → IsStage (back_at s m) base marks
stage_back s base marks m h is low = record {
  units = units_take s.clauses s.trail.literals s.trail.reasons s.units m is.0 is.1 h.units;
  bottom = h.bottom;
  marked = λ i b. ((h.marked i b).0, omega (arith, low i b, length-take-le m s.trail.literals is.1));
  rising = h.rising;
  settled = λ i b. subst (IsFixpoint (live_of s.clauses)) (sym (take_again (level_mark marks i) m s.trail.literals (low i b))) (h.settled i b);
}

-- the base is a mark
pub base_mark : (s : Standing) (base : ℕ) (marks : List ℕ) → IsStage s base marks → IsMark s base
base_mark s base marks h = (omega (arith, h.bottom), omega (arith, h.bottom, h.units.within))

pub stage_none : (s : Standing) (base : ℕ) (marks : List ℕ) → IsStage s base marks → IsStage s base []
stage_none s base marks h = record { units = h.units; bottom = h.bottom; marked = λ i b. absurd (omega arith); rising = λ i j a b. absurd (omega arith); settled = λ i b. absurd (omega arith) }

pub restarted : (s : Standing) (base : ℕ) (marks : List ℕ) → IsStage s base marks → StandsAlone (back_at s base) × IsStage (back_at s base) base []
restarted s base marks h =
    let is = base_mark s base marks h in
    let t = stage_back s base [] base (stage_none s base marks h) is (λ i b. absurd (omega arith)) in
    ((t.units, omega (arith, h.bottom, length-take-le base s.trail.literals is.1)), t)

-- going back to the last mark
pub last_mark : (s : Standing) (base : ℕ) (marks : List ℕ) (m : ℕ) → IsStage s base marks → IsLast marks (Some m) → IsMark s m
last_mark s base marks m h l = subst (IsMark s) (sym l.1) (h.marked (length marks - 1) (omega (arith, l.0)))

pub last_back : (s : Standing) (base : ℕ) (marks : List ℕ) (m : ℕ) → IsStage s base marks → IsLast marks (Some m) → IsStage (back_at s m) base marks × IsPropagated (back_at s m)
last_back s base marks m h l = (
  stage_back s base marks m h (last_mark s base marks m h l) (λ i b. subst (λ n. level_mark marks i ≤ n) (sym l.1) (h.rising i (length marks - 1) (omega arith) (omega (arith, l.0)))),
  subst (λ n. IsFixpoint (live_of s.clauses) (take n s.trail.literals)) (sym l.1) (h.settled (length marks - 1) (omega (arith, l.0))),
)

pub stage_take : (s : Standing) (base : ℕ) (marks : List ℕ) (n : ℕ) → n ≤ length marks → IsStage s base marks → IsStage s base (take n marks)
stage_take s base marks n b h = record {
  units = h.units;
  bottom = h.bottom;
  marked = λ i k. subst (IsMark s) (sym (same i k)) (h.marked i (low i k));
  rising = λ i j a k. omega (arith, same i (omega arith), same j k, h.rising i j a (low j k));
  settled = λ i k. subst (λ m. IsFixpoint (live_of s.clauses) (take m s.trail.literals)) (sym (same i k)) (h.settled i (low i k));
}
  where
    low : (i : ℕ) → i < length (take n marks) → i < length marks
    low i k = omega (arith, length-take-le n marks b)

    same : (i : ℕ) → i < length (take n marks) → level_mark (take n marks) i ≡ level_mark marks i
    same i k = get_or-take n marks i 0 (omega (arith, length-take-le n marks b))

take_whole : (xs : List ℤ) → take (length xs) xs ≡ xs
take_whole [] = refl
take_whole (x ∷ xs) = ap (λ (ys : List ℤ). x ∷ ys) (take_whole xs)

pub stage_push : (s : Standing) (base : ℕ) (marks : List ℕ) (m : ℕ) → IsStage s base marks → IsPropagated s → IsMark s m → m ≡ length s.trail.literals → IsStage s base (marks ++ m ∷ [])
stage_push s base marks m h settled is e = record {
  units = h.units;
  bottom = h.bottom;
  marked = λ i k. each (IsMark s) h.marked is i k;
  rising = λ i j a k. ⊎_elim (λ b. omega (arith, old i (omega arith), old j b, h.rising i j a b)) (λ last. let t = new j last in omega (arith, t, e, (each (IsMark s) h.marked is i (omega arith)).1)) (places j k);
  settled = λ i k. each (λ n. IsFixpoint (live_of s.clauses) (take n s.trail.literals)) h.settled (subst (IsFixpoint (live_of s.clauses)) (sym all) settled) i k;
}
  where
    old : (i : ℕ) → i < length marks → level_mark (marks ++ m ∷ []) i ≡ level_mark marks i
    old i k = front marks (m ∷ []) i 0 k

    new : (i : ℕ) → i ≡ length marks → level_mark (marks ++ m ∷ []) i ≡ m
    new i k = behind marks m 0 i k

    places : (i : ℕ) → i < length (marks ++ m ∷ []) → (i < length marks) ⊎ (i ≡ length marks)
    places i k = below_suc i (length marks) (omega (arith, length-append marks (m ∷ [])))

    each : (P : ℕ → Type 0) → ((i : ℕ) → i < length marks → P (level_mark marks i)) → P m → (i : ℕ) → i < length (marks ++ m ∷ []) → P (level_mark (marks ++ m ∷ []) i)
    each P f g i k = ⊎_elim (λ b. subst P (sym (old i b)) (f i b)) (λ last. subst P (sym (new i last)) g) (places i k)

    all : take m s.trail.literals ≡ s.trail.literals
    all = rw e (take_whole s.trail.literals)

pub stage_grown : (s t : Standing) (base : ℕ) (marks : List ℕ) → GainsStanding s t → IsStage s base marks → IsStage t base marks
stage_grown s t base marks g h = record {
  units = subst (λ (cs : List (Option Clause)). AreUnits cs t.trail.literals t.trail.reasons t.units) (sym g.clauses) (subst (AreUnits s.clauses t.trail.literals t.trail.reasons) (sym g.units)
      (subst (λ (ls : List ℤ). AreUnits s.clauses ls t.trail.reasons s.units) (sym g.literals) (subst (λ (rs : List (Option ℕ)). AreUnits s.clauses (s.trail.literals ++ g.more) rs s.units) (sym g.reasons)
      (units_more s.clauses s.trail.literals g.more s.trail.reasons g.causes s.units h.units))));
  bottom = h.bottom ∙ sym g.units;
  marked = λ i b. mark_grown s t (level_mark marks i) (h.marked i b) g;
  rising = h.rising;
  settled = λ i b. subst (λ (cs : List (Option Clause)). IsFixpoint (live_of cs) (take (level_mark marks i) t.trail.literals)) (sym g.clauses)
      (subst (IsFixpoint (live_of s.clauses)) (sym (ap (take (level_mark marks i)) g.literals ∙ take-append-le (level_mark marks i) s.trail.literals g.more (h.marked i b).1)) (h.settled i b));
}

-- a clause of two open literals says nothing yet
fixpoint_open : (live : List Clause) (lits : List ℤ) (c : Clause) (two : ℤ × ℤ) (m : ℕ) → m ≤ length lits → AreTwoOpen lits c two → IsFixpoint live (take m lits) → IsFixpoint (live ++ c ∷ []) (take m lits)
fixpoint_open live lits c two m b h f = record {
  no_conflict = λ d has false'. ⊎_elim (λ k. f.no_conflict d k false') (λ e. first (false' two.0 (subst (λ (x : Clause). Contains x two.0) e h.0.0))) (Contains-push_cases live c d has);
  closed = λ d l has u. ⊎_elim (λ k. f.closed d l k u) (λ e. absurd (h.1.1 (
      ⊎_elim (λ s. s) (λ n. absurd (second n)) (u.1 two.1 (subst (λ (x : Clause). Contains x two.1) e h.1.0))
      ∙ sym (⊎_elim (λ s. s) (λ n. absurd (first n)) (u.1 two.0 (subst (λ (x : Clause). Contains x two.0) e h.0.0)))))) (Contains-push_cases live c d has);
}
  where
    first : Contains (take m lits) (neg_ℤ two.0) → ⊥
    first n = h.0.1.1 (take_part m lits b (neg_ℤ two.0) n)

    second : Contains (take m lits) (neg_ℤ two.1) → ⊥
    second n = h.1.2.1 (take_part m lits b (neg_ℤ two.1) n)

pub stage_open : (s : Standing) (base : ℕ) (marks : List ℕ) (c : Clause) (two : ℤ × ℤ) → AreTwoOpen s.trail.literals c two → IsStage s base marks → IsStage (standing_more s c) base marks
stage_open s base marks c two open' h = record {
  units = units_open s.clauses s.trail.literals s.trail.reasons s.units c (two_not_one s.trail.literals c two open') h.units;
  bottom = h.bottom;
  marked = h.marked;
  rising = h.rising;
  settled = λ i b. subst (λ (cs : List Clause). IsFixpoint cs (take (level_mark marks i) s.trail.literals)) (sym (live_push s.clauses c)) (fixpoint_open (live_of s.clauses) s.trail.literals c two (level_mark marks i) (h.marked i b).1 open' (h.settled i b));
}

-- ---- what is kept

pub keeps_more : (a b c : Standing) → Keeps a b → Keeps b c → Keeps a c
keeps_more a b c p q = record { clauses = q.clauses ∙ p.clauses; greatest = q.greatest ∙ p.greatest }

pub keeps_back : (s t : Standing) (m : ℕ) → t ≡ back_at s m → Keeps s t
keeps_back s t m e = subst (Keeps s) (sym e) (record { clauses = refl; greatest = refl })
