-- Logs whose lines add and delete, and logs that go on.
use Rattle.std.specs.Prelude.{◌≡◌, ℕ, zero, suc, ◌+◌, ◌<◌, ◌≤◌, Bool, true, false, cond, if◌then◌else◌, List, [], ◌∷◌, ◌++◌, count_by, length, slice_index_or, slice_set}
use Rattle.std.specs.List.{Contains, fold}
use Rattle.std.proofs.Common.{refl, sym, ap, subst, ◌∙◌, arith, inl, ⊎_elim, append_assoc, append-nil, length-append, length-set, length-take-le, take}
use Rattle.std.proofs.lemmas.List.{append_cancel_left, get_or_default, set-append_left, take_more}
use Rattle.std.proofs.lemmas.List.Elements.{All-nil, All-push, Contains-append_left, Contains-push, Contains-push_cases}
use Rattle.std.proofs.lemmas.List.Sums.{fold-append, sum_by-append}
use Rattle.clause_core.specs.Clause.{Clause, IsClauseInRange}
use Rattle.clause_core.specs.ClauseLines.{Removes, added, clause_in}
use Rattle.clause_core.specs.Log.{IsLemma, IsSpacedLine, Spacing, first_spacing, spacing_after, spacing_of}
use Rattle.clause_core.specs.declared.line.Line.{Line}
use Rattle.clause_core.specs.declared.line.Line.TheVariants.{Add, Delete}
use Rattle.clause_core.proofs.Copies.{same_self}
use Rattle.clause_core.proofs.Decided.{contains_here, contains_there}
use Rattle.clause_core.proofs.RupSoundness.{contains_cases}
use Rattle.clause_core.proofs.Log.{one_more, one_spaced}
use Rattle.cdcl_solver.specs.Loading.{SameLive}
use Rattle.cdcl_solver.specs.Logs.{LogView, LeavesLive, with_added, lemmas, Continues}
use Rattle.cdcl_solver.specs.Deletions.{AreAdditions, ChangeAlike, DeletesLine, IsLog, OnlyAdds, Takes, left_by, log_view_of}

-- ---- lines that add

pub additions_push : (lines : List Line) (c : Clause) → AreAdditions lines → AreAdditions (lines ++ Add c ∷ [])
additions_push [] c h = tt
additions_push (Add d ∷ lines) c h = additions_push lines c h
additions_push (Delete d ∷ lines) c h = absurd h

pub adds_none : (log : LogView) → OnlyAdds log log
adds_none log more e = subst AreAdditions (append_cancel_left log.lines [] more (append-nil log.lines ∙ e)) tt

pub adds_more : (old log after : LogView) (m : List Line) (c : Clause) → log.lines ≡ old.lines ++ m → OnlyAdds old log → after ≡ with_added log c → OnlyAdds old after
adds_more old log after m c e h is more f =
    let whole : old.lines ++ (m ++ Add c ∷ []) ≡ old.lines ++ more =
    sym (append_assoc old.lines m (Add c ∷ [])) ∙ ap (λ (z : List Line). z ++ Add c ∷ []) (sym e) ∙ sym (ap (λ (g : LogView). g.lines) is) ∙ f in
    subst AreAdditions (append_cancel_left old.lines (m ++ Add c ∷ []) more whole) (additions_push m c (h m e))

-- ---- what is left

left_behind : (own : List Clause) (lines : List Line) (marks : List Bool) → left_by own lines marks ≡ left_by [] lines marks ++ own
left_behind own [] marks = refl
left_behind own (x ∷ lines) [] = refl
left_behind own (x ∷ lines) (true ∷ marks) =
    left_behind (clause_in x ∷ own) lines marks ∙ sym (append_assoc (left_by [] lines marks) (clause_in x ∷ []) own) ∙ ap (λ (z : List Clause). z ++ own) (sym (left_behind (clause_in x ∷ []) lines marks))
left_behind own (x ∷ lines) (false ∷ marks) = left_behind own lines marks

-- the clauses left by one line more
pub left_marked : (own : List Clause) (lines : List Line) (marks : List Bool) (x : Line) → length marks ≡ length lines → left_by own (lines ++ x ∷ []) (marks ++ true ∷ []) ≡ clause_in x ∷ left_by own lines marks
left_marked own [] [] x e = refl
left_marked own [] (m ∷ marks) x e = absurd (omega arith)
left_marked own (y ∷ lines) [] x e = absurd (omega arith)
left_marked own (y ∷ lines) (true ∷ marks) x e = left_marked (clause_in y ∷ own) lines marks x (omega arith)
left_marked own (y ∷ lines) (false ∷ marks) x e = left_marked own lines marks x (omega arith)

pub left_unmarked : (own : List Clause) (lines : List Line) (marks : List Bool) (x : Line) → length marks ≡ length lines → left_by own (lines ++ x ∷ []) (marks ++ false ∷ []) ≡ left_by own lines marks
left_unmarked own [] [] x e = refl
left_unmarked own [] (m ∷ marks) x e = absurd (omega arith)
left_unmarked own (y ∷ lines) [] x e = absurd (omega arith)
left_unmarked own (y ∷ lines) (true ∷ marks) x e = left_unmarked (clause_in y ∷ own) lines marks x (omega arith)
left_unmarked own (y ∷ lines) (false ∷ marks) x e = left_unmarked own lines marks x (omega arith)

-- where a mark is cleared, its clause is taken
pub left_cleared : (own : List Clause) (lines : List Line) (marks : List Bool) (place : ℕ) (c : Clause) → place < length lines → length marks ≡ length lines → slice_index_or marks place false ≡ true →
    ((x : Line) → slice_index_or lines place x ≡ Add c) → Takes (left_by own lines marks) c (left_by own lines (slice_set marks place false))
left_cleared own [] marks place c below even marked is = absurd (omega arith)
left_cleared own (y ∷ lines) [] place c below even marked is = absurd (omega arith)
left_cleared own (y ∷ lines) (true ∷ marks) zero c below even marked is =
    let e : y ≡ Add c = is y in
    (left_by [] lines marks, own, left_behind (clause_in y ∷ own) lines marks ∙ ap (λ (z : Line). left_by [] lines marks ++ clause_in z ∷ own) e, left_behind own lines marks)
left_cleared own (y ∷ lines) (false ∷ marks) zero c below even marked is = absurd (cc)
left_cleared own (y ∷ lines) (true ∷ marks) (suc place) c below even marked is = left_cleared (clause_in y ∷ own) lines marks place c (omega arith) (omega arith) marked is
left_cleared own (y ∷ lines) (false ∷ marks) (suc place) c below even marked is = left_cleared own lines marks place c (omega arith) (omega arith) marked is

-- the clauses of one line more
left_step_yes : (lines : List Line) (marks : List Bool) (i : ℕ) (x : Line) → length marks ≡ length lines → i < length lines → x ≡ slice_index_or lines i x → slice_index_or marks i false ≡ true → left_by [] (take (i + 1) lines) (take (i + 1) marks) ≡ clause_in x ∷ left_by [] (take i lines) (take i marks)
left_step_yes lines marks i x even below is marked =
    let a = take_more lines i x below in
    let b = take_more marks i false (omega arith) in
    let long : length (take i marks) ≡ length (take i lines) = omega (arith, length-take-le i marks (omega arith), length-take-le i lines (omega arith)) in
    rw (a, b, marked, ← is) (left_marked [] (take i lines) (take i marks) x long)

left_step_no : (lines : List Line) (marks : List Bool) (i : ℕ) (x : Line) → length marks ≡ length lines → i < length lines → x ≡ slice_index_or lines i x → slice_index_or marks i false ≡ false → left_by [] (take (i + 1) lines) (take (i + 1) marks) ≡ left_by [] (take i lines) (take i marks)
left_step_no lines marks i x even below is marked =
    let a = take_more lines i x below in
    let b = take_more marks i false (omega arith) in
    let long : length (take i marks) ≡ length (take i lines) = omega (arith, length-take-le i marks (omega arith), length-take-le i lines (omega arith)) in
    rw (a, b, marked, ← is) (left_unmarked [] (take i lines) (take i marks) x long)

-- so the clauses gathered
pub left_more_yes : (lines : List Line) (marks : List Bool) (i : ℕ) (x : Line) (mark : Bool) (c : Clause) (clauses next : List Clause) → length marks ≡ length lines → i < length lines → x ≡ slice_index_or lines i x → mark ≡ slice_index_or marks i mark → mark ≡ true →
    c ≡ clause_in x → next ≡ clauses ++ c ∷ [] → SameLive clauses (left_by [] (take i lines) (take i marks)) → SameLive next (left_by [] (take (i + 1) lines) (take (i + 1) marks))
left_more_yes lines marks i x mark c clauses next even below is at marked of now same =
    let left = left_by [] (take i lines) (take i marks) in
    let here : slice_index_or marks i false ≡ true = get_or_default marks i false mark (omega arith) ∙ sym at ∙ marked in
    subst (SameLive next) (sym (left_step_yes lines marks i x even below is here)) (subst (λ (d : Clause). SameLive next (d ∷ left)) of (subst (λ (z : List Clause). SameLive z (c ∷ left)) (sym now) (record {
      there = λ d has. ⊎_elim (λ m. contains_there c left d (same.there d m)) (λ e. subst (Contains (c ∷ left)) e (contains_here c left)) (Contains-push_cases clauses c d has);
      back = λ d has. ⊎_elim (λ e. subst (Contains (clauses ++ c ∷ [])) e (Contains-push clauses c)) (λ m. Contains-append_left clauses (c ∷ []) d (same.back d m)) (contains_cases c left d has);
    })))

pub left_more_no : (lines : List Line) (marks : List Bool) (i : ℕ) (x : Line) (mark : Bool) (clauses next : List Clause) → length marks ≡ length lines → i < length lines → x ≡ slice_index_or lines i x → mark ≡ slice_index_or marks i mark → mark ≡ false →
    next ≡ clauses → SameLive clauses (left_by [] (take i lines) (take i marks)) → SameLive next (left_by [] (take (i + 1) lines) (take (i + 1) marks))
left_more_no lines marks i x mark clauses next even below is at marked now same =
    let here : slice_index_or marks i false ≡ false = get_or_default marks i false mark (omega arith) ∙ sym at ∙ marked in
    subst (SameLive next) (sym (left_step_no lines marks i x even below is here)) (subst (λ (z : List Clause). SameLive z (left_by [] (take i lines) (take i marks))) (sym now) same)

pub takes_removes : (live : List Clause) (c : Clause) (next : List Clause) → Takes live c next → Removes live c next
takes_removes live c next h = (h.0, h.1, c, same_self c, h.2, h.3)

leaves_added : (own : List Clause) (lines : List Line) (left : List Clause) (c : Clause) → LeavesLive own lines left → LeavesLive own (lines ++ Add c ∷ []) (c ∷ left)
leaves_added own [] left c h = ap (λ (z : List Clause). c ∷ z) h
leaves_added own (Add d ∷ lines) left c h = leaves_added (d ∷ own) lines left c h
leaves_added own (Delete d ∷ lines) left c h = (h.0, h.1, leaves_added h.0 lines left c h.2)

leaves_deleted : (own : List Clause) (lines : List Line) (left : List Clause) (c : Clause) (next : List Clause) → LeavesLive own lines left → Removes left c next → LeavesLive own (lines ++ Delete c ∷ []) next
leaves_deleted own [] left c next h r = (next, subst (λ (z : List Clause). Removes z c next) h r, refl)
leaves_deleted own (Add d ∷ lines) left c next h r = leaves_deleted (d ∷ own) lines left c next h r
leaves_deleted own (Delete d ∷ lines) left c next h r = (h.0, h.1, leaves_deleted h.0 lines left c next h.2 r)

-- ---- how many lines there are

-- fewer lines add than there are
pub few_added : (lines : List Line) → length (added lines) ≤ length lines
few_added [] = omega arith
few_added (Add c ∷ lines) = let h = few_added lines in omega arith
few_added (Delete c ∷ lines) = let h = few_added lines in omega arith

spaced_once : (s : Spacing) (x : Line) → ((spacing_after s x).count ≤ suc s.count) × ((spacing_after s x).run ≤ suc s.run)
spaced_once s (Add c) = (omega arith, omega arith)
spaced_once s (Delete c) = go s.within
  where
    go : (b : Bool) → (let t : Spacing = (if b then s else record { run = suc s.run; count = 0; within = true }) in (t.count ≤ suc s.count) × (t.run ≤ suc s.run))
    go true = (omega arith, omega arith)
    go false = (omega arith, omega arith)

few_spaced : (s : Spacing) (lines : List Line) → ((fold spacing_after s lines).count ≤ s.count + length lines) × ((fold spacing_after s lines).run ≤ s.run + length lines)
few_spaced s [] = (omega arith, omega arith)
few_spaced s (x ∷ lines) = let a = spaced_once s x in let b = few_spaced (spacing_after s x) lines in (omega arith, omega arith)

-- so no count is too great
pub log_small : (lines : List Line) (marks : List Bool) (count : ℕ) (runs : Spacing) → IsLog lines marks count runs → (count ≤ length lines) × (runs.count ≤ length lines) × (runs.run ≤ length lines + 1)
log_small lines marks count runs h =
    let a = few_added lines in
    let b = few_spaced first_spacing lines in
    let c : runs.count ≡ (spacing_of lines).count = ap (λ (s : Spacing). s.count) h.spacing in
    let d : runs.run ≡ (spacing_of lines).run = ap (λ (s : Spacing). s.run) h.spacing in
    let e = h.counted in
    (omega arith, omega arith, omega arith)

-- ---- a log's fields

added_push : (lines : List Line) (c : Clause) → length (added (lines ++ Add c ∷ [])) ≡ length (added lines) + 1
added_push [] c = refl
added_push (Add d ∷ lines) c = let e = added_push lines c in omega arith
added_push (Delete d ∷ lines) c = added_push lines c

pub deleted_push : (lines : List Line) (c : Clause) → length (added (lines ++ Delete c ∷ [])) ≡ length (added lines)
deleted_push [] c = refl
deleted_push (Add d ∷ lines) c = let e = deleted_push lines c in omega arith
deleted_push (Delete d ∷ lines) c = deleted_push lines c

spacing_push : (lines : List Line) (x : Line) → spacing_after (spacing_of lines) x ≡ spacing_of (lines ++ x ∷ [])
spacing_push lines x = sym (fold-append spacing_after first_spacing lines (x ∷ []))

pub log_added : (lines : List Line) (marks : List Bool) (count : ℕ) (runs next : Spacing) (c : Clause) → IsLog lines marks count runs → next ≡ spacing_after runs (Add c) → IsLog (lines ++ Add c ∷ []) (marks ++ true ∷ []) (count + 1) next
log_added lines marks count runs next c h is = record {
  even = simp length-append (omega (arith, h.even));
  leaves = subst (LeavesLive [] (lines ++ Add c ∷ [])) (sym (left_marked [] lines marks (Add c) h.even)) (leaves_added [] lines (left_by [] lines marks) c h.leaves);
  counted = omega (arith, h.counted, added_push lines c);
  spacing = is ∙ ap (λ (s : Spacing). spacing_after s (Add c)) h.spacing ∙ spacing_push lines (Add c);
}

-- what is left where a line deletes the clause of a place
pub left_deleted : (lines : List Line) (marks after : List Bool) (place : ℕ) (c : Clause) → length marks ≡ length lines → place < length lines → slice_index_or marks place false ≡ true → ((x : Line) → slice_index_or lines place x ≡ Add c) →
    after ≡ slice_set (marks ++ false ∷ []) place false → Takes (left_by [] lines marks) c (left_by [] (lines ++ Delete c ∷ []) after)
left_deleted lines marks after place c even below marked is e =
    let cleared : List Bool = slice_set marks place false in
    let long : length cleared ≡ length lines = length-set marks place false ∙ even in
    let now : left_by [] (lines ++ Delete c ∷ []) after ≡ left_by [] lines cleared =
    ap (left_by [] (lines ++ Delete c ∷ [])) (e ∙ set-append_left marks (false ∷ []) place false (omega arith)) ∙ left_unmarked [] lines cleared (Delete c) long in
    subst (Takes (left_by [] lines marks) c) (sym now) (left_cleared [] lines marks place c below even marked is)

pub log_deleted : (lines : List Line) (marks after : List Bool) (count : ℕ) (runs next : Spacing) (place : ℕ) (c : Clause) → IsLog lines marks count runs → place < length lines → slice_index_or marks place false ≡ true →
    ((x : Line) → slice_index_or lines place x ≡ Add c) → after ≡ slice_set (marks ++ false ∷ []) place false → next ≡ spacing_after runs (Delete c) → IsLog (lines ++ Delete c ∷ []) after count next
log_deleted lines marks after count runs next place c h below marked is e f = record {
  even = ap length e ∙ length-set (marks ++ false ∷ []) place false ∙ simp length-append (omega (arith, h.even));
  leaves = leaves_deleted [] lines (left_by [] lines marks) c (left_by [] (lines ++ Delete c ∷ []) after) h.leaves (takes_removes (left_by [] lines marks) c _ (left_deleted lines marks after place c h.even below marked is e));
  counted = h.counted ∙ sym (deleted_push lines c);
  spacing = f ∙ ap (λ (s : Spacing). spacing_after s (Delete c)) h.spacing ∙ spacing_push lines (Delete c);
}

-- the view of a log after a deletion
pub view_deleted : (lines : List Line) (marks after : List Bool) (count : ℕ) (runs : Spacing) (place : ℕ) (c : Clause) → IsLog lines marks count runs → IsSpacedLine runs (Delete c) → place < length lines → slice_index_or marks place false ≡ true → ((x : Line) → slice_index_or lines place x ≡ Add c) →
    after ≡ slice_set (marks ++ false ∷ []) place false → DeletesLine (log_view_of lines marks) c (log_view_of (lines ++ Delete c ∷ []) after)
view_deleted lines marks after count runs place c h spaced below marked is e = record {
  lines = refl;
  spaced = subst (λ (s : Spacing). IsSpacedLine s (Delete c)) h.spacing spaced;
  left = left_deleted lines marks after place c h.even below marked is e;
}

pub view_push : (lines : List Line) (marks : List Bool) (c : Clause) → length marks ≡ length lines → log_view_of (lines ++ Add c ∷ []) (marks ++ true ∷ []) ≡ with_added (log_view_of lines marks) c
view_push lines marks c even = ap (λ (left : List Clause). let v : LogView = record { lines = lines ++ Add c ∷ []; left = left } in v) (left_marked [] lines marks (Add c) even)

-- ---- going on
pub lemmas_push : (log : LogView) (c : Clause) → lemmas (with_added log c) ≡ lemmas log + 1
lemmas_push log c = added_push log.lines c

pub continues_none : (max : ℕ) (given : List Clause) (log : LogView) → Continues max given 0 log log
continues_none max given log = record { more = []; lines = sym (append-nil log.lines); in_range = All-nil (λ (x : Line). IsClauseInRange max (clause_in x)); lawful = refl; spaced = tt; few = omega arith }

pub continues_one : (max : ℕ) (given : List Clause) (limit : ℕ) (old new : LogView) (c : Clause) → Continues max given limit old new → IsLemma (new.left ++ given) c → IsClauseInRange max c → Continues max given (limit + 1) old (with_added new c)
continues_one max given limit old new c h lemma range = record {
  more = h.more ++ Add c ∷ [];
  lines = ap (λ (xs : List Line). xs ++ Add c ∷ []) h.lines ∙ append_assoc old.lines h.more (Add c ∷ []);
  in_range = All-push (λ (x : Line). IsClauseInRange max (clause_in x)) h.more (Add c) h.in_range range;
  lawful = one_more given [] old.left h.more new.left (c ∷ new.left) (Add c) h.lawful (inl lemma, refl);
  spaced = one_spaced (spacing_of old.lines) h.more (Add c) h.spaced tt;
  few = omega (arith, h.few, lemmas_push new c);
}

pub continues_weaker : (max : ℕ) (given : List Clause) (limit wider : ℕ) (old new : LogView) → limit ≤ wider → Continues max given limit old new → Continues max given wider old new
continues_weaker max given limit wider old new b h = record { more = h.more; lines = h.lines; in_range = h.in_range; lawful = h.lawful; spaced = h.spaced; few = omega (arith, h.few) }

-- ---- a solver beside its log

count_push : (kind : Clause → Bool) (xs : List Clause) (c : Clause) → count_by kind (xs ++ c ∷ []) ≡ count_by kind xs + count_by kind (c ∷ [])
count_push kind xs c = sum_by-append (λ (x : Clause). cond (kind x) 1 0) xs (c ∷ [])

count_front : (kind : Clause → Bool) (xs : List Clause) (c : Clause) → count_by kind (c ∷ xs) ≡ count_by kind (c ∷ []) + count_by kind xs
count_front kind xs c = sum_by-append (λ (x : Clause). cond (kind x) 1 0) (c ∷ []) xs

pub alike_none : (live : List Clause) (log : LogView) → ChangeAlike live log live log
alike_none live log kind = refl

-- one clause more in both
pub alike_more : (live now : List Clause) (first log : LogView) (c : Clause) → ChangeAlike live first now log → ChangeAlike live first (now ++ c ∷ []) (with_added log c)
alike_more live now first log c h kind = omega (arith, h kind, count_push kind now c, count_front kind log.left c)

-- one clause less in a list
pub count_taken : (kind : Clause → Bool) (live : List Clause) (c : Clause) (next : List Clause) → Takes live c next → count_by kind live ≡ count_by kind (c ∷ []) + count_by kind next
count_taken kind live c next h =
    let f : Clause → ℕ = λ x. cond (kind x) 1 0 in
    let a = ap (count_by kind) h.2 in
    let b = ap (count_by kind) h.3 in
    let d : count_by kind (h.0 ++ c ∷ h.1) ≡ count_by kind h.0 + count_by kind (c ∷ h.1) = sum_by-append f h.0 (c ∷ h.1) in
    let e : count_by kind (h.0 ++ h.1) ≡ count_by kind h.0 + count_by kind h.1 = sum_by-append f h.0 h.1 in
    let g = count_front kind h.1 c in
    omega arith
