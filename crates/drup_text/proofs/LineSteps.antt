-- Literals, clauses and lines that are read.
use Rattle.std.specs.Prelude.{◌≡◌, ◌==◌, ℕ, zero, suc, Bool, true, false, cond, List, [], ◌∷◌, ◌++◌, codes, ℤ, pos}
use Rattle.std.specs.Global.{Global}
use Rattle.std.specs.List.{All}
use Rattle.std.specs.declared.option.Option.{Option}
use Rattle.std.specs.declared.option.Option.TheVariants.{None, Some}
use Rattle.std.specs.declared.vec.Vec.{Vec}
use Rattle.std.proofs.Common.{refl, sym, ap, subst, ◌∙◌, arith}
use Rattle.std.proofs.lemmas.List.Elements.{All-nil, All-push, All-pop}
use Rattle.graph_core.specs.Text.Numerals.{◌>>=◌, front_at}
use Rattle.graph_core.specs.Text.Readers.{Reader, behind_at, choose_at, ended_at, many_at, map_at, put_before}
use Rattle.clause_core.specs.Clause.{Clause, IsClauseInRange, SameSet}
use Rattle.clause_core.specs.ClauseLines.{ClauseLine}
use Rattle.clause_core.specs.declared.line.Line.TheVariants.{Add, Delete}
use Rattle.mv_text.proofs.CallerLemmas.{Gathers, gathers_more, gathers_none}
use Rattle.mv_text.specs.Steps.{Gives, IsVariable, Pushes, Takes, begins}
use Rattle.drup_text.specs.ClauseReading.{clause_line_at, clause_literals_at, clause_read_at, is_no_zero, literal_at, minus_number, nonzero_at}
use Rattle.drup_text.specs.LineTexts.{IsClauseLineInRange, IsSameClauseLine}
use Rattle.drup_text.specs.Steps.{HasItems, IsLiteralInRange}
use Rattle.drup_text.proofs.ClauseReading.{literals_next}

-- ---- one of two readers

pub chosen_one : {A : Type 0} (test : ℕ → Bool) (one two : Reader A) (bytes : List ℕ) → begins test bytes ≡ true → choose_at test one two bytes ≡ one bytes
chosen_one test one two [] h = absurd (cc)
chosen_one test one two (b ∷ bytes) h = ap (λ c. cond c (one (b ∷ bytes)) (two (b ∷ bytes))) h

pub chosen_other : {A : Type 0} (test : ℕ → Bool) (one two : Reader A) (bytes : List ℕ) → two [] ≡ None → begins test bytes ≡ false → choose_at test one two bytes ≡ two bytes
chosen_other test one two [] none h = sym none
chosen_other test one two (b ∷ bytes) none h = ap (λ c. cond c (one (b ∷ bytes)) (two (b ∷ bytes))) h

-- ---- literals

pub plus_out : (max v : ℕ) → IsLiteralInRange max (pos v) → IsVariable max v
plus_out max zero h = absurd (h.0 refl)
plus_out max (suc v) h = (omega arith, h.1)

pub minus_out : (max v : ℕ) → IsLiteralInRange max (minus_number v) → IsVariable max v
minus_out max zero h = absurd (h.0 refl)
minus_out max (suc v) h = (omega arith, h.1)

-- what is read by another reader after a text, changed
pub taken_behind : {A B : Type 0} (f : A → B) (text : List ℕ) (item : Reader A) (old mid new : List ℕ) (x : A) → front_at text old ≡ Some mid → item mid ≡ Some (x, new) → map_at f (behind_at text item) old ≡ Some (f x, new)
taken_behind f text item old mid new x e h = ap (λ o. o >>= λ y. Some (f y.0, y.1)) (ap (λ o. o >>= item) e ∙ h)

pub taken_map : {A B : Type 0} (f : A → B) (item : Reader A) (old new : List ℕ) (x : A) → item old ≡ Some (x, new) → map_at f item old ≡ Some (f x, new)
taken_map f item old new x h = ap (λ o. o >>= λ y. Some (f y.0, y.1)) h

abbrev pub minus_at : Reader ℤ
minus_at = map_at minus_number (behind_at (codes "-") nonzero_at)

abbrev pub plus_at : Reader ℤ
plus_at = map_at pos nonzero_at

pub minus_there : (bytes : List ℕ) → begins (λ b. b == 45) bytes ≡ true → literal_at bytes ≡ minus_at bytes
minus_there bytes h = chosen_one (λ b. b == 45) minus_at plus_at bytes h

pub plus_there : (bytes : List ℕ) → begins (λ b. b == 45) bytes ≡ false → literal_at bytes ≡ plus_at bytes
plus_there bytes h = chosen_other (λ b. b == 45) minus_at plus_at bytes refl h

abbrev IsSame : {A : Type 0} → A → A → Type 0
IsSame x y = x ≡ y

pub minus_none : (max : ℕ) (old mid new : List ℕ) → begins (λ b. b == 45) old ≡ true → front_at (codes "-") old ≡ Some mid → Takes nonzero_at (IsVariable max) IsSame mid new None → Takes literal_at (IsLiteralInRange max) IsSame old new None
minus_none max old mid new at e h = record {
  read = minus_number h.read;
  taken = minus_there old at ∙ taken_behind minus_number (codes "-") nonzero_at old mid new h.read e h.taken;
  gives = λ r. h.gives (minus_out max h.read r);
}

pub plus_none : (max : ℕ) (old new : List ℕ) → begins (λ b. b == 45) old ≡ false → Takes nonzero_at (IsVariable max) IsSame old new None → Takes literal_at (IsLiteralInRange max) IsSame old new None
plus_none max old new at h = record {
  read = pos h.read;
  taken = plus_there old at ∙ taken_map pos nonzero_at old new h.read h.taken;
  gives = λ r. h.gives (plus_out max h.read r);
}

-- ---- the loop over literals

abbrev pub AreLiteralsSoFar : ℕ → List ℕ → List ℕ → Option (Vec ℤ Global) → Type 0
AreLiteralsSoFar max = Gathers clause_literals_at (All (IsLiteralInRange max)) HasItems

pub literals_begin : (max : ℕ) (bytes : List ℕ) (empty : Vec ℤ Global) → empty.items ≡ [] → AreLiteralsSoFar max bytes bytes (Some empty)
literals_begin max bytes empty none = gathers_none clause_literals_at (All (IsLiteralInRange max)) HasItems bytes (Some empty) (All-nil (IsLiteralInRange max), none)

-- one turn of the reader
pub literals_turn : (bytes : List ℕ) → begins is_no_zero bytes ≡ true → clause_literals_at bytes ≡ (ended_at literal_at (codes " ") bytes >>= λ x. put_before x.0 (clause_literals_at x.1))
literals_turn [] h = absurd (cc)
literals_turn (b ∷ bytes) h = literals_next b bytes ∙ ap (λ c. cond c (ended_at literal_at (codes " ") (b ∷ bytes) >>= λ x. put_before x.0 (clause_literals_at x.1)) (Some ([], b ∷ bytes))) h

more_give : (max : ℕ) (read : List ℤ) (x : ℤ) (given : Option (Vec ℤ Global)) (one : Option ℤ) (given' : Option (Vec ℤ Global)) →
    Gives (All (IsLiteralInRange max)) HasItems read given → Gives (IsLiteralInRange max) (λ l k. l ≡ k) x one → Pushes given one given' → Gives (All (IsLiteralInRange max)) HasItems (read ++ x ∷ []) given'
more_give max read x (Some list) (Some k) (Some longer) all here pushes =
    (All-push (IsLiteralInRange max) read x all.0 here.0, pushes ∙ ap (λ xs. xs ++ k ∷ []) all.1 ∙ ap (λ y. read ++ y ∷ []) (sym here.1))
more_give max read x (Some list) (Some k) None all here pushes = absurd pushes
more_give max read x (Some list) None given' all here pushes =
    subst (Gives (All (IsLiteralInRange max)) HasItems (read ++ x ∷ [])) (sym pushes) (λ h. here (All-pop (IsLiteralInRange max) (read ++ x ∷ []) read (Some x) refl h).1)
more_give max read x None one given' all here pushes =
    subst (Gives (All (IsLiteralInRange max)) HasItems (read ++ x ∷ [])) (sym pushes) (λ h. all (All-pop (IsLiteralInRange max) (read ++ x ∷ []) read (Some x) refl h).0)

pub literals_more : (max : ℕ) (old now new : List ℕ) (given : Option (Vec ℤ Global)) (one : Option ℤ) (given' : Option (Vec ℤ Global)) → begins is_no_zero now ≡ true →
    AreLiteralsSoFar max old now given → Takes (ended_at literal_at (codes " ")) (IsLiteralInRange max) (λ l k. l ≡ k) now new one → Pushes given one given' → AreLiteralsSoFar max old new given'
literals_more max old now new given one given' at so_far next pushes =
    gathers_more given' so_far next (literals_turn now at) (more_give max so_far.read next.read given one given' so_far.gives next.gives pushes)

-- ---- clauses and lines

taken_ended : {A : Type 0} (item : Reader A) (text : List ℕ) (old mid new : List ℕ) (x : A) → item old ≡ Some (x, mid) → front_at text mid ≡ Some new → ended_at item text old ≡ Some (x, new)
taken_ended item text old mid new x h e = ap (λ o. o >>= λ y. front_at text y.1 >>= λ rest. Some (y.0, rest)) h ∙ ap (λ o. o >>= λ rest. Some (x, rest)) e

pub clause_some : (max : ℕ) (old mid new : List ℕ) (all : Vec ℤ Global) (c : Clause) → Takes clause_literals_at (All (IsLiteralInRange max)) HasItems old mid (Some all) → front_at (codes "0") mid ≡ Some new → SameSet c all.items →
    Takes clause_read_at (IsClauseInRange max) SameSet old new (Some c)
clause_some max old mid new all c h e same =
    let k : SameSet c h.read = subst (SameSet c) h.gives.1 same in
    record { read = h.read; taken = taken_ended clause_literals_at (codes "0") old mid new h.read h.taken e; gives = (h.gives.0, (k.1, k.0)) }

abbrev delete_at : Reader ClauseLine
delete_at = map_at Delete (behind_at (codes "d ") clause_read_at)

abbrev add_at : Reader ClauseLine
add_at = map_at Add clause_read_at

pub delete_there : (bytes : List ℕ) → begins (λ b. b == 100) bytes ≡ true → clause_line_at bytes ≡ delete_at bytes
unfolding clause_line_at
delete_there bytes h = chosen_one (λ b. b == 100) delete_at add_at bytes h

pub add_there : (bytes : List ℕ) → begins (λ b. b == 100) bytes ≡ false → clause_line_at bytes ≡ add_at bytes
unfolding clause_line_at many_at
add_there bytes h = chosen_other (λ b. b == 100) delete_at add_at bytes refl h

pub delete_some : (max : ℕ) (old mid new : List ℕ) (c : Clause) → begins (λ b. b == 100) old ≡ true → front_at (codes "d ") old ≡ Some mid → Takes clause_read_at (IsClauseInRange max) SameSet mid new (Some c) → Takes clause_line_at (IsClauseLineInRange max) IsSameClauseLine old new (Some (Delete c))
delete_some max old mid new c at e h = record { read = Delete h.read; taken = delete_there old at ∙ taken_behind Delete (codes "d ") clause_read_at old mid new h.read e h.taken; gives = h.gives }

pub delete_none : (max : ℕ) (old mid new : List ℕ) → begins (λ b. b == 100) old ≡ true → front_at (codes "d ") old ≡ Some mid → Takes clause_read_at (IsClauseInRange max) SameSet mid new None → Takes clause_line_at (IsClauseLineInRange max) IsSameClauseLine old new None
delete_none max old mid new at e h = record { read = Delete h.read; taken = delete_there old at ∙ taken_behind Delete (codes "d ") clause_read_at old mid new h.read e h.taken; gives = h.gives }

pub add_some : (max : ℕ) (old new : List ℕ) (c : Clause) → begins (λ b. b == 100) old ≡ false → Takes clause_read_at (IsClauseInRange max) SameSet old new (Some c) → Takes clause_line_at (IsClauseLineInRange max) IsSameClauseLine old new (Some (Add c))
add_some max old new c at h = record { read = Add h.read; taken = add_there old at ∙ taken_map Add clause_read_at old new h.read h.taken; gives = h.gives }

pub add_none : (max : ℕ) (old new : List ℕ) → begins (λ b. b == 100) old ≡ false → Takes clause_read_at (IsClauseInRange max) SameSet old new None → Takes clause_line_at (IsClauseLineInRange max) IsSameClauseLine old new None
add_none max old new at h = record { read = Add h.read; taken = add_there old at ∙ taken_map Add clause_read_at old new h.read h.taken; gives = h.gives }

-- a text that fails after a choice
pub fails_behind : {A B : Type 0} (f : A → B) (text : List ℕ) (item : Reader A) (old mid : List ℕ) → front_at text old ≡ Some mid → item mid ≡ None → map_at f (behind_at text item) old ≡ None
fails_behind f text item old mid e h = ap (λ o. o >>= λ y. Some (f y.0, y.1)) (ap (λ o. o >>= item) e ∙ h)

pub fails_front : {A B : Type 0} (f : A → B) (text : List ℕ) (item : Reader A) (old : List ℕ) → front_at text old ≡ None → map_at f (behind_at text item) old ≡ None
fails_front f text item old e = ap (λ o. o >>= λ y. Some (f y.0, y.1)) (ap (λ o. o >>= item) e)

pub fails_map : {A B : Type 0} (f : A → B) (item : Reader A) (old : List ℕ) → item old ≡ None → map_at f item old ≡ None
fails_map f item old h = ap (λ o. o >>= λ y. Some (f y.0, y.1)) h
