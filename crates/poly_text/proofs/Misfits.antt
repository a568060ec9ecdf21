-- What is ensured where a step of reading fails and its failure is passed on, and where an item and a text after it are read.
use Rattle.std.specs.declared.result.Result.{Result}
use Rattle.std.specs.declared.result.Result.TheVariants.{Ok, Err}
use Rattle.std.specs.declared.option.Option.{Option}
use Rattle.std.specs.declared.option.Option.TheVariants.{None, Some}
use Rattle.std.specs.Prelude.{◌≡◌, ℕ, List}
use Rattle.std.specs.Result.{IfOk, IfErr, IsErrAnd}
use Rattle.mv_text.specs.declared.line_fail.LineFail.{LineFail}
use Rattle.std.proofs.Common.{refl}
use Rattle.graph_core.specs.Text.Numerals.{front_at}
use Rattle.graph_core.specs.Text.Readers.{Reader, ended_at}
use Rattle.mv_text.specs.Steps.{IsMisfit, Takes}
use Rattle.mv_text.proofs.CallerLemmas.{misfit_from}

-- nothing is said of what is read
pub no_value : {T E : Type 0} (r : Result T E) (P : T → Type 0) (e : E) → IsErrAnd r (λ y. y ≡ e) → IfOk r P
no_value (Ok x) P e h = absurd h
no_value (Err y) P e h = tt

-- what does not fit in the step does not fit in the whole
pub misfit_passed : {T : Type 0} {P Q : Type 0} (r : Result T LineFail) (f : LineFail) → IsErrAnd r (λ y. y ≡ f) → (P → Q) → IsMisfit P f → IfErr r (IsMisfit Q)
misfit_passed (Ok x) f h stay m = absurd h
misfit_passed (Err y) f h stay m = rw h (misfit_from f stay m)

-- ---- an item and a text after it

pub ended_taken : {A T : Type 0} (item : Reader A) (end : List ℕ) (InRange : A → Type 0) (Is : A → T → Type 0) (old mid new : List ℕ) (given : Option T) →
    Takes item InRange Is old mid given → front_at end mid ≡ Some new → Takes (ended_at item end) InRange Is old new given
ended_taken item end InRange Is old mid new given h e = record { read = h.read; taken = rw (h.taken, e) refl; gives = h.gives }

pub no_item : {A : Type 0} (item : Reader A) (end old : List ℕ) → item old ≡ None → ended_at item end old ≡ None
no_item item end old h = rw h refl

pub no_end : {A : Type 0} (item : Reader A) (end : List ℕ) (x : A) (old mid : List ℕ) → item old ≡ Some (x, mid) → front_at end mid ≡ None →
    ended_at item end old ≡ None
no_end item end x old mid e h = rw (e, h) refl
