-- The lines of a header, as they are read.
use Rattle.std.specs.Prelude.{◌≡◌, ◌==◌, ◌+◌, ◌*◌, ◌≤◌, ℕ, true, false, List, codes, length, IfErr, IfOk, Result, Ok, Err}
use Rattle.std.specs.declared.option.Option.{Option}
use Rattle.std.specs.declared.option.Option.TheVariants.{None, Some}
use Rattle.std.specs.Option.{option_zip}
use Rattle.std.proofs.Common.{refl, sym, ap, subst, ◌∙◌, arith, ⊎_elim}
use Rattle.graph_core.specs.declared.literal.Lit.{Lit}
use Rattle.graph_core.specs.Graph.Extended.{Extended}
use Rattle.graph_core.specs.Graph.Literals.{variable_of}
use Rattle.graph_core.specs.Text.Numerals.{◌>>=◌, number_at, front_at}
use Rattle.graph_core.specs.Text.Readers.{Reader, behind_at, ended_at, map_at, text_at}
use Rattle.graph_core.proofs.OfGraphs.CallerLemmas.{input_in_range}
use Rattle.mv_text.specs.declared.line_fail.LineFail.{LineFail}
use Rattle.mv_text.proofs.CallerLemmas.{misfit_from}
use Rattle.mv_text.specs.Steps.{Gives, IsMisfit, Takes, begins}
use Rattle.ripple_graft.specs.Beside.{IsOutput}
use Rattle.ripple_graft.specs.Extension.{IsExtension, IsKnown, whole}
use Rattle.ripple_graft.proofs.KnownLiterals.{defined_is}
use Rattle.drup_text.specs.ClauseReading.{cut_line_at, lits, number_line_at, output_from, output_line_at, pair_line_at, some_cut, two_at}
use Rattle.drup_text.specs.LineTexts.{IsCountInRange, IsCutSize, IsPairOf, IsSizeInRange}
use Rattle.drup_text.specs.Steps.{AreBothUpTo}
use Rattle.drup_text.proofs.LineSteps.{chosen_one, chosen_other, fails_behind, fails_front, fails_map, taken_behind, taken_map}

abbrev IsSame : {A : Type 0} → A → A → Type 0
IsSame x y = x ≡ y

-- ---- two numbers

both_give : (most : ℕ) (n k : ℕ) (one two : Option ℕ) → Gives (λ m. m ≤ most) IsSame n one → Gives (λ m. m ≤ most) IsSame k two → Gives (AreBothUpTo most) IsSame (n, k) (option_zip one two)
both_give most n k (Some a) (Some b) g h = ((g.0, h.0), ap (λ z. (z, k)) g.1 ∙ ap (λ z. (a, z)) h.1)
both_give most n k (Some a) None g h = λ all. h all.1
both_give most n k None two g h = λ all. g all.0

pub two_taken : (most : ℕ) (old mid new : List ℕ) (one two : Option ℕ) → Takes (ended_at (number_at 10) (codes " ")) (λ m. m ≤ most) IsSame old mid one → Takes (number_at 10) (λ m. m ≤ most) IsSame mid new two →
    Takes two_at (AreBothUpTo most) IsSame old new (option_zip one two)
two_taken most old mid new one two g h = record {
  read = (g.read, h.read);
  taken = ap (λ o. o >>= λ x. number_at 10 x.1 >>= λ y. Some ((x.0, y.0), y.1)) g.taken ∙ ap (λ o. o >>= λ y. Some ((g.read, y.0), y.1)) h.taken;
  gives = both_give most g.read h.read one two g.gives h.gives;
}

-- ---- the line of a cut

abbrev none_at : Reader (Option (ℕ × ℕ))
none_at = text_at (codes "none") None

abbrev replace_at : Reader (Option (ℕ × ℕ))
replace_at = map_at some_cut (behind_at (codes "replace ") two_at)

none_there : (bytes : List ℕ) → begins (λ b. b == 110) bytes ≡ true → cut_line_at bytes ≡ none_at bytes
unfolding cut_line_at
none_there bytes h = chosen_one (λ b. b == 110) none_at replace_at bytes h

replace_there : (bytes : List ℕ) → begins (λ b. b == 110) bytes ≡ false → cut_line_at bytes ≡ replace_at bytes
unfolding cut_line_at
replace_there bytes h = chosen_other (λ b. b == 110) none_at replace_at bytes refl h

pub none_taken : (outputs : ℕ) (old new : List ℕ) → begins (λ b. b == 110) old ≡ true → front_at (codes "none") old ≡ Some new → Takes cut_line_at (IsSizeInRange outputs) IsSame old new (Some None)
none_taken outputs old new at e = record {
  read = None;
  taken = none_there old at ∙ ap (λ o. o >>= λ rest. Some (None, rest)) e;
  gives = (tt, refl);
}

pub none_fails : (bytes : List ℕ) → begins (λ b. b == 110) bytes ≡ true → front_at (codes "none") bytes ≡ None → cut_line_at bytes ≡ None
none_fails bytes at e = none_there bytes at ∙ ap (λ o. o >>= λ rest. Some (None, rest)) e

pub replace_fails : (bytes : List ℕ) → begins (λ b. b == 110) bytes ≡ false → front_at (codes "replace ") bytes ≡ None → cut_line_at bytes ≡ None
replace_fails bytes at e = replace_there bytes at ∙ fails_front some_cut (codes "replace ") two_at bytes e

pub size_fails : (bytes mid : List ℕ) → begins (λ b. b == 110) bytes ≡ false → front_at (codes "replace ") bytes ≡ Some mid → two_at mid ≡ None → cut_line_at bytes ≡ None
size_fails bytes mid at e h = replace_there bytes at ∙ fails_behind some_cut (codes "replace ") two_at bytes mid e h

pub size_some : (outputs : ℕ) (old mid new : List ℕ) (n : ℕ × ℕ) → begins (λ b. b == 110) old ≡ false → front_at (codes "replace ") old ≡ Some mid → Takes two_at (AreBothUpTo outputs) IsSame mid new (Some n) → IsCutSize outputs n →
    Takes cut_line_at (IsSizeInRange outputs) IsSame old new (Some (Some n))
size_some outputs old mid new n at e h size = record {
  read = Some h.read;
  taken = replace_there old at ∙ taken_behind some_cut (codes "replace ") two_at old mid new h.read e h.taken;
  gives = (rw h.gives.1 size, ap (λ k. Some k) h.gives.1);
}

-- another size, or numbers that are too great for one
pub size_other : (outputs : ℕ) (old mid new : List ℕ) (n : ℕ × ℕ) → begins (λ b. b == 110) old ≡ false → front_at (codes "replace ") old ≡ Some mid → Takes two_at (AreBothUpTo outputs) IsSame mid new (Some n) → ¬ (IsCutSize outputs n) →
    Takes cut_line_at (IsSizeInRange outputs) IsSame old new None
size_other outputs old mid new n at e h other = record {
  read = Some h.read;
  taken = replace_there old at ∙ taken_behind some_cut (codes "replace ") two_at old mid new h.read e h.taken;
  gives = λ size. other (rw (sym h.gives.1) size);
}

pub size_none : (outputs : ℕ) (old mid new : List ℕ) → begins (λ b. b == 110) old ≡ false → front_at (codes "replace ") old ≡ Some mid → Takes two_at (AreBothUpTo outputs) IsSame mid new None → Takes cut_line_at (IsSizeInRange outputs) IsSame old new None
size_none outputs old mid new at e h = record {
  read = Some h.read;
  taken = replace_there old at ∙ taken_behind some_cut (codes "replace ") two_at old mid new h.read e h.taken;
  gives = λ size. h.gives (low h.read size);
}
  where
    low : (n : ℕ × ℕ) → IsCutSize outputs n → AreBothUpTo outputs n
    low n size = ⊎_elim (λ a. (omega (arith, a), omega (arith, a))) (λ b. (omega (arith, b), omega (arith, b))) size.1

-- ---- the line of a pair

-- a literal that is known is at most the greatest one
pub known_low : (e : Extended) (l : Lit) → IsExtension e → IsKnown e l → l.0 ≤ 2 * e.max + 1
known_low e l made known =
    ⊎_elim (λ none. omega (arith, none))
    (λ c. ⊎_elim
    (λ a. let low = (input_in_range e.graph made.graph a.1 (a.0, a.2, a.3)).0 in let room = made.room in let same : variable_of a.1 ≡ variable_of l = a.4 in omega arith)
    (λ b. let low = made.gates_in_range b.0 b.1 b.2 in let same = ap (λ y. y.v) b.3 ∙ b.4 in omega arith)
    ((defined_is (whole e) (variable_of l)).0 c))
    known

pub pair_fails : (bytes : List ℕ) → two_at bytes ≡ None → pair_line_at bytes ≡ None
unfolding pair_line_at
pair_fails bytes h = fails_map lits two_at bytes h

pair_read : (old new : List ℕ) (n : ℕ × ℕ) → two_at old ≡ Some (n, new) → pair_line_at old ≡ Some (lits n, new)
unfolding pair_line_at
pair_read old new n h = taken_map lits two_at old new n h

pub pair_some : (e : Extended) (most : ℕ) (old new : List ℕ) (n : ℕ × ℕ) → Takes two_at (AreBothUpTo most) IsSame old new (Some n) → IsPairOf e (lits n) → Takes pair_line_at (IsPairOf e) IsSame old new (Some (lits n))
pair_some e most old new n h is = record {
  read = lits h.read;
  taken = pair_read old new h.read h.taken;
  gives = (rw h.gives.1 is, ap lits h.gives.1);
}

pub pair_other : (e : Extended) (most : ℕ) (old new : List ℕ) (n : ℕ × ℕ) → Takes two_at (AreBothUpTo most) IsSame old new (Some n) → ¬ (IsPairOf e (lits n)) → Takes pair_line_at (IsPairOf e) IsSame old new None
pair_other e most old new n h other = record {
  read = lits h.read;
  taken = pair_read old new h.read h.taken;
  gives = λ is. other (rw (sym h.gives.1) is);
}

pub pair_none : (e : Extended) (old new : List ℕ) → IsExtension e → Takes two_at (AreBothUpTo (2 * e.max + 1)) IsSame old new None → Takes pair_line_at (IsPairOf e) IsSame old new None
pair_none e old new made h = record {
  read = lits h.read;
  taken = pair_read old new h.read h.taken;
  gives = λ is. h.gives (known_low e (lits h.read).0 made is.0, known_low e (lits h.read).1 made is.1);
}

-- ---- a number after a word

module _ (word : List ℕ) where
  pub number_front_fails : (bytes : List ℕ) → front_at word bytes ≡ None → number_line_at word bytes ≡ None
  unfolding number_line_at
  number_front_fails bytes e = ap (λ o. o >>= number_at 10) e

  pub number_fails : (bytes mid : List ℕ) → front_at word bytes ≡ Some mid → number_at 10 mid ≡ None → number_line_at word bytes ≡ None
  unfolding number_line_at
  number_fails bytes mid e h = ap (λ o. o >>= number_at 10) e ∙ h

  number_taken : (most : ℕ) (old mid new : List ℕ) (given : Option ℕ) → front_at word old ≡ Some mid → Takes (number_at 10) (λ n. n ≤ most) IsSame mid new given → Takes (number_line_at word) (IsCountInRange most) IsSame old new given
  unfolding number_line_at
  number_taken most old mid new given e h = record { read = h.read; taken = ap (λ o. o >>= number_at 10) e ∙ h.taken; gives = h.gives }

  -- what reads the number reads the line
  pub number_ok : (most : ℕ) (old mid new : List ℕ) (r : Result (Option ℕ) LineFail) → front_at word old ≡ Some mid → IfOk r (Takes (number_at 10) (λ n. n ≤ most) IsSame mid new) →
      IfOk r (Takes (number_line_at word) (IsCountInRange most) IsSame old new)
  number_ok most old mid new (Ok given) e h = number_taken most old mid new given e h
  number_ok most old mid new (Err f) e h = h

  pub number_err : (old mid : List ℕ) (r : Result (Option ℕ) LineFail) → front_at word old ≡ Some mid → IfErr r (IsMisfit (number_at 10 mid ≡ None)) → IfErr r (IsMisfit (number_line_at word old ≡ None))
  number_err old mid (Ok given) e h = h
  number_err old mid (Err f) e h = misfit_from f (number_fails old mid e) h

-- ---- the line of an output

pub output_fails : (bytes : List ℕ) → two_at bytes ≡ None → output_line_at bytes ≡ None
unfolding output_line_at
output_fails bytes h = fails_map output_from two_at bytes h

output_read : (old new : List ℕ) (n : ℕ × ℕ) → two_at old ≡ Some (n, new) → output_line_at old ≡ Some (output_from n, new)
unfolding output_line_at
output_read old new n h = taken_map output_from two_at old new n h

pub output_some : (e : Extended) (most : ℕ) (old new : List ℕ) (n : ℕ × ℕ) → Takes two_at (AreBothUpTo most) IsSame old new (Some n) → IsOutput e (output_from n) → Takes output_line_at (IsOutput e) IsSame old new (Some (output_from n))
output_some e most old new n h is = record {
  read = output_from h.read;
  taken = output_read old new h.read h.taken;
  gives = (subst (λ (k : ℕ × ℕ). IsOutput e (output_from k)) (sym h.gives.1) is, ap output_from h.gives.1);
}

pub output_other : (e : Extended) (most : ℕ) (old new : List ℕ) (n : ℕ × ℕ) → Takes two_at (AreBothUpTo most) IsSame old new (Some n) → ¬ (IsOutput e (output_from n)) → Takes output_line_at (IsOutput e) IsSame old new None
output_other e most old new n h other = record {
  read = output_from h.read;
  taken = output_read old new h.read h.taken;
  gives = λ is. other (subst (λ (k : ℕ × ℕ). IsOutput e (output_from k)) h.gives.1 is);
}

-- a number that is above each column and each literal
pub output_none : (e : Extended) (most : ℕ) (old new : List ℕ) → IsExtension e → length e.graph.outputs ≤ most → 2 * e.max + 1 ≤ most → Takes two_at (AreBothUpTo most) IsSame old new None → Takes output_line_at (IsOutput e) IsSame old new None
output_none e most old new made columns literals h = record {
  read = output_from h.read;
  taken = output_read old new h.read h.taken;
  gives = λ is. let within = is.within in let low = known_low e (output_from h.read).1 made is.known in h.gives (omega arith, omega arith);
}
