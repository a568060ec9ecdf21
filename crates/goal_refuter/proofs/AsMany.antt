-- Clauses that are as often live as others, while lemmas come and go.
use Rattle.std.specs.Prelude.{◌≡◌, ℕ, ◌+◌, ◌-◌, ◌<◌, ◌≤◌, Bool, true, false, cond, ◌&&◌, List, [], ◌∷◌, ◌++◌, count_by, length}
use Rattle.std.specs.List.{All, Contains}
use Rattle.std.specs.Ordering.{int_eq}
use Rattle.std.proofs.Common.{refl, sym, ap₂, subst, ◌∙◌, arith, ⊎_elim, true≢false}
use Rattle.std.proofs.lemmas.Bool.Decides.{Decides-int_eq}
use Rattle.std.proofs.lemmas.List.Sums.{sum_by-append}
use Rattle.clause_core.specs.Clause.{Clause, IsClauseInRange}
use Rattle.clause_core.specs.ClauseLines.{ClauseLine, added}
use Rattle.clause_core.proofs.CallerLemmas.{contains_cases, contains_here, contains_nil, contains_there}
use Rattle.cdcl_solver.specs.Deletions.{AreAsMany, ChangeAlike}
use Rattle.cdcl_solver.specs.Loading.{SameLive}
use Rattle.cdcl_solver.specs.Logs.{Continues, LogView, lemmas}
use Rattle.cdcl_solver.specs.declared.solved.Solved.{Solved}
use Rattle.cdcl_solver.specs.declared.solved.Solved.TheVariants.{Refuted, Model, Spent}
use Rattle.cdcl_solver.specs.Solvers.{SolverView}
use Rattle.goal_refuter.specs.Beginnings.{IsBegunAlike, KeepsCount, StaysBegunAlike}
use Rattle.goal_refuter.specs.Refuting.{IsRefutation}
use Rattle.cdcl_solver.proofs.LogLemmas.{continues_none}
use Rattle.goal_refuter.proofs.Beginning.{begun_none, continues_on}
use Rattle.goal_refuter.proofs.LogLines.{added_more}

-- ---- as many

count_append : (kind : Clause → Bool) (xs ys : List Clause) → count_by kind (xs ++ ys) ≡ count_by kind xs + count_by kind ys
count_append kind xs ys = sum_by-append (λ (x : Clause). cond (kind x) 1 0) xs ys

-- nothing has changed
pub alike_none : (live : List Clause) (log : LogView) → ChangeAlike live log live log
alike_none live log kind = refl

pub many_itself : (clauses : List Clause) → AreAsMany clauses ([] ++ clauses)
many_itself clauses kind = refl

pub begun_alike : (max : ℕ) (given : List Clause) (conflicts : ℕ) (solver : SolverView) (log : LogView) → solver ≡ record { max = max; live = given } → log ≡ record { lines = []; left = [] } → IsBegunAlike max given conflicts solver log
begun_alike max given conflicts solver log is none = (
  begun_none max given conflicts solver log is none,
  subst (λ (s : SolverView). AreAsMany s.live (log.left ++ given)) (sym is) (subst (λ (l : LogView). AreAsMany given (l.left ++ given)) (sym none) (many_itself given)),
)

pub many_on : (live now given : List Clause) (log after : LogView) → ChangeAlike live log now after → AreAsMany live (log.left ++ given) → AreAsMany now (after.left ++ given)
many_on live now given log after alike many kind = omega (arith, alike kind, many kind, count_append kind log.left given, count_append kind after.left given)

pub keeps_on : (forgets : Bool) (live now given : List Clause) (log after : LogView) → ChangeAlike live log now after → KeepsCount forgets live log.left given → KeepsCount forgets now after.left given
keeps_on true live now given log after alike many = many_on live now given log after alike many
keeps_on false live now given log after alike many = tt

pub alike_joins : (live mid now : List Clause) (log next after : LogView) → ChangeAlike live log mid next → ChangeAlike mid next now after → ChangeAlike live log now after
alike_joins live mid now log next after a b kind = omega (arith, a kind, b kind)

-- ---- so the same

same_clause : Clause → Clause → Bool
same_clause [] [] = true
same_clause [] (k ∷ d) = false
same_clause (l ∷ c) [] = false
same_clause (l ∷ c) (k ∷ d) = int_eq l k && same_clause c d

same_yes : (c : Clause) → same_clause c c ≡ true
unfolding same_clause
same_yes [] = refl
same_yes (l ∷ c) = ap₂ (λ (a b : Bool). a && b) ((Decides-int_eq l l).1 refl) (same_yes c)

both_true : (a b : Bool) → (a && b) ≡ true → (a ≡ true) × (b ≡ true)
both_true true b h = (refl, h)
both_true false b h = absurd (true≢false (sym h))

same_is : (c d : Clause) → same_clause c d ≡ true → c ≡ d
unfolding same_clause
same_is [] [] h = refl
same_is [] (k ∷ d) h = absurd (true≢false (sym h))
same_is (l ∷ c) [] h = absurd (true≢false (sym h))
same_is (l ∷ c) (k ∷ d) h = let b = both_true (int_eq l k) (same_clause c d) h in ap₂ (λ (x : _) (xs : Clause). x ∷ xs) ((Decides-int_eq l k).0 b.0) (same_is c d b.1)

one_count : (kind : Clause → Bool) (x : Clause) (b : Bool) → kind x ≡ b → count_by kind (x ∷ []) ≡ cond b 1 0
one_count kind x true e = subst (λ (b : Bool). 0 + cond b 1 0 ≡ 1) (sym e) refl
one_count kind x false e = subst (λ (b : Bool). 0 + cond b 1 0 ≡ 0) (sym e) refl

has_count : (xs : List Clause) (c : Clause) → Contains xs c → 0 < count_by (same_clause c) xs
has_count [] c h = absurd (contains_nil c h)
has_count (x ∷ xs) c h =
    let whole = count_append (same_clause c) (x ∷ []) xs in
    ⊎_elim (λ e. let here = one_count (same_clause c) x true (subst (λ (z : Clause). same_clause c z ≡ true) (sym e) (same_yes c)) in omega arith) (λ m. let more = has_count xs c m in omega arith)
    (contains_cases x xs c h)

count_has : (xs : List Clause) (c : Clause) → 0 < count_by (same_clause c) xs → Contains xs c
count_has [] c h = absurd (omega arith)
count_has (x ∷ xs) c h = go (same_clause c x) refl (count_has xs c)
  where
    go : (b : Bool) → same_clause c x ≡ b → (0 < count_by (same_clause c) xs → Contains xs c) → Contains (x ∷ xs) c
    go true e more = subst (Contains (x ∷ xs)) (sym (same_is c x e)) (contains_here x xs)
    go false e more =
        let whole = count_append (same_clause c) (x ∷ []) xs in
        let none = one_count (same_clause c) x false e in
        contains_there x xs c (more (omega arith))

many_has : (a b : List Clause) (c : Clause) → AreAsMany a b → Contains a c → Contains b c
many_has a b c many h = count_has b c (let here = has_count a c h in let same = many (same_clause c) in omega arith)

pub many_same : (a b : List Clause) → AreAsMany a b → SameLive a b
many_same a b many = record { there = λ c h. many_has a b c many h; back = λ c h. many_has b a c (λ kind. sym (many kind)) h }

-- ---- lemmas deleted

pub forgotten : (conflicts : ℕ) (solver new : SolverView) (log after : LogView) → new.max ≡ solver.max → ((given : List Clause) → Continues solver.max given 0 log after) → All (IsClauseInRange solver.max) after.left →
    ChangeAlike solver.live log new.live after → StaysBegunAlike conflicts solver log new after
forgotten conflicts solver new log after same goes range alike max given h =
    let many = many_on solver.live new.live given log after alike h.1 in
    let here = subst (λ m. Continues m given 0 log after) h.0.kept.max_is (goes given) in
    let before = h.0.lemmas_only.few in
    let none = here.few in (
      record {
        lemmas_only = continues_on max given conflicts 0 conflicts (record { lines = []; left = [] }) log after h.0.lemmas_only here (omega arith);
        kept = record {
          max_is = same ∙ h.0.kept.max_is;
          live = many_same new.live (after.left ++ given) many;
          in_range = subst (λ m. All (IsClauseInRange m) after.left) h.0.kept.max_is range;
        };
      },
      many,
    )

-- ---- some conflicts more

-- So many lemmas more than at first, and the live clauses are those given and those that the log left.
pub record IsPartly (max : ℕ) (given : List Clause) (n : ℕ) (old : LogView) (live : List Clause) (log : LogView) : Type 0 where
  pub live_is : SameLive live (log.left ++ given)
  pub continues : Continues max given n old log
  pub count : lemmas log ≡ lemmas old + n

pub partly_none : (max : ℕ) (given live : List Clause) (log : LogView) → SameLive live (log.left ++ given) → IsPartly max given 0 log live log
partly_none max given live log same = record { live_is = same; continues = continues_none max given log; count = omega arith }

-- before the first conflict
pub partly_start : (max : ℕ) (given : List Clause) (conflicts : ℕ) (live : List Clause) (log : LogView) → SameLive live (log.left ++ given) → IsPartly max given (conflicts - conflicts) log live log
partly_start max given conflicts live log same = let none : 0 ≡ conflicts - conflicts = omega arith in subst (λ n. IsPartly max given n log live log) none (partly_none max given live log same)

-- after conflicts that were all spent
pub partly_spent : (max : ℕ) (given live now : List Clause) (goal : Clause) (n m : ℕ) (old mid new : LogView) → IsPartly max given n old live mid → IsRefutation max given goal m mid new Spent → SameLive now (new.left ++ given) → IsPartly max given (n + m) old now new
partly_spent max given live now goal n m old mid new h s same =
    let count = h.count in
    let spent = s.spent in
    record {
      live_is = same;
      continues = continues_on max given n m (n + m) old mid new h.continues s.continues (omega arith);
      count = omega arith;
    }

-- after some conflicts of those left, which were all spent
pub partly_next : (max own : ℕ) (given live now : List Clause) (goal : Clause) (conflicts left some : ℕ) (old mid new : LogView) (solved : Solved) → own ≡ max → some < left → left ≤ conflicts → IsPartly max given (conflicts - left) old live mid →
    IsRefutation own given goal some mid new solved → solved ≡ Spent → SameLive now (new.left ++ given) → IsPartly max given (conflicts - (left - some)) old now new
partly_next max own given live now goal conflicts left some old mid new solved same less most h answer is there =
    let spent = subst (λ (s : Solved). IsRefutation max given goal some mid new s) is (subst (λ m. IsRefutation m given goal some mid new solved) same answer) in
    let count : conflicts - left + some ≡ conflicts - (left - some) = omega arith in
    subst (λ n. IsPartly max given n old now new) count (partly_spent max given live now goal (conflicts - left) some old mid new h spent there)

-- after deletions
pub partly_forgot : (max : ℕ) (given live now : List Clause) (n : ℕ) (old mid new : LogView) → IsPartly max given n old live mid → Continues max given 0 mid new → SameLive now (new.left ++ given) → IsPartly max given n old now new
partly_forgot max given live now n old mid new h c same =
    let count = h.count in
    let few = c.few in
    let more : lemmas mid ≤ lemmas new = subst (λ (lines : List ClauseLine). lemmas mid ≤ length (added lines)) (sym c.lines) (added_more mid.lines c.more) in
    record {
      live_is = same;
      continues = continues_on max given n 0 n old mid new h.continues c (omega arith);
      count = omega arith;
    }

-- what comes of a goal after a part of the conflicts, over the whole log
pub refutation_on : (max : ℕ) (given : List Clause) (goal : Clause) (n m conflicts : ℕ) (old mid new : LogView) (solved : Solved) → Continues max given n old mid → lemmas mid ≡ lemmas old + n → n + m ≤ conflicts → (solved ≡ Spent → n + m ≡ conflicts) →
    IsRefutation max given goal m mid new solved → IsRefutation max given goal conflicts old new solved
refutation_on max given goal n m conflicts old mid new Refuted before count most all h = record {
  between = h.between;
  continues = continues_on max given n m conflicts old mid h.between before h.continues (let few = h.continues.few in omega arith);
  rup = h.rup;
  added_is = h.added_is;
}
refutation_on max given goal n m conflicts old mid new (Model values) before count most all h = h
refutation_on max given goal n m conflicts old mid new Spent before count most all h = record {
  continues = continues_on max given n m conflicts old mid new before h.continues (let few = h.continues.few in omega arith);
  spent = let spent = h.spent in let whole = all refl in omega arith;
  next = h.next;
}
