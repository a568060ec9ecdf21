-- The first term of a polynomial, by whether a minus stands before it.
use Rattle.std.specs.Prelude.{◌≡◌, List, ℕ, true, false, codes}
use Rattle.std.specs.declared.option.Option.TheVariants.{None, Some}
use Rattle.std.specs.declared.result.Result.{Result}
use Rattle.std.specs.declared.result.Result.TheVariants.{Ok, Err}
use Rattle.std.specs.declared.option.Option.{Option}
use Rattle.std.specs.Result.{IfOk, IfErr}
use Rattle.std.proofs.Common.{refl, ◌∙◌}
use Rattle.graph_core.specs.Text.Numerals.{front_at}
use Rattle.graph_core.specs.Text.Readers.{Reader, behind_at}
use Rattle.algebra_core.specs.Reading.{first_term_at, is_minus, term_at}
use Rattle.mv_text.specs.declared.line_fail.LineFail.{LineFail}
use Rattle.mv_text.specs.Steps.{begins, IsMisfit, Takes}
use Rattle.mv_text.proofs.CallerLemmas.{misfit_from}
use Rattle.poly_text.proofs.LineSteps.{chosen_one, chosen_other}

pub negative_there : (old mid : List ℕ) → begins is_minus old ≡ true → front_at (codes "-") old ≡ Some mid → first_term_at old ≡ term_at true mid
negative_there old mid minus e = chosen_one is_minus (behind_at (codes "-") (term_at true)) (term_at false) old minus ∙ rw e refl

pub no_minus_there : (old : List ℕ) → begins is_minus old ≡ true → front_at (codes "-") old ≡ None → first_term_at old ≡ None
no_minus_there old minus e = chosen_one is_minus (behind_at (codes "-") (term_at true)) (term_at false) old minus ∙ rw e refl

pub positive_there : (old : List ℕ) → begins is_minus old ≡ false → first_term_at old ≡ term_at false old
positive_there old none = chosen_other is_minus (behind_at (codes "-") (term_at true)) (term_at false) old refl none

-- a reader that reads here what another one reads further on
pub ok_further : {A T : Type 0} (one two : Reader A) (InRange : A → Type 0) (Is : A → T → Type 0) (old mid new : List ℕ) (r : Result (Option T) LineFail) →
    one old ≡ two mid → IfOk r (Takes two InRange Is mid new) → IfOk r (Takes one InRange Is old new)
ok_further one two InRange Is old mid new (Ok given) e h = record { read = h.read; taken = e ∙ h.taken; gives = h.gives }
ok_further one two InRange Is old mid new (Err f) e h = h

pub err_further : {A T : Type 0} (one two : Reader A) (old mid : List ℕ) (r : Result (Option T) LineFail) → one old ≡ two mid →
    IfErr r (IsMisfit (two mid ≡ None)) → IfErr r (IsMisfit (one old ≡ None))
err_further one two old mid (Ok given) e h = h
err_further one two old mid (Err f) e h = misfit_from f (λ n. e ∙ n) h
