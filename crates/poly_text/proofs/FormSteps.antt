-- A form that is read after an id.
use Rattle.std.specs.Prelude.{◌≡◌, ℕ, List, Result, Ok, Err}
use Rattle.std.specs.Result.{IsErrAnd}
use Rattle.std.specs.declared.option.Option.{Option}
use Rattle.std.specs.declared.option.Option.TheVariants.{None}
use Rattle.std.proofs.Common.{sym, subst, ◌∙◌}
use Rattle.algebra_core.specs.AlgebraLines.{Line}
use Rattle.graph_core.specs.Text.Readers.{Reader}
use Rattle.mv_text.specs.declared.line_fail.LineFail.{LineFail}
use Rattle.mv_text.specs.Steps.{IsMisfit}
use Rattle.mv_text.proofs.CallerLemmas.{misfit_from}
use Rattle.poly_terms.specs.Tables.{Extends, Table}
use Rattle.poly_text.specs.declared.line.PacLine.{PacLine}
use Rattle.poly_text.specs.Forms.{HasId, ReadsForm, TakesForm}
use Rattle.poly_text.proofs.Misfits.{misfit_passed, no_value}

module _ {form : ℕ → Reader Line} {max : ℕ} {id : Option ℕ} {t u : Table} {old new : List ℕ} where
  -- all of its parts are taken
  pub form_taken : (given line : Option PacLine) → given ≡ line → Extends t u → ((n : ℕ) → HasId n id → TakesForm (form n) max u old new line) → ReadsForm form max id t u old new (Ok given)
  form_taken given line e ext h = record {
    ok = λ n g. subst (TakesForm (form n) max u old new) (sym e) (h n g);
    err = λ n. tt;
    extends = ext;
  }

  -- a part isn't there
  pub form_fails : {P : Type 0} (r : Result (Option PacLine) LineFail) (f : LineFail) → IsErrAnd r (λ y. y ≡ f) → Extends t u → ((n : ℕ) → P → form n old ≡ None) → IsMisfit P f → ReadsForm form max id t u old new r
  form_fails r f e ext none h = record {
    ok = λ n g. no_value r (TakesForm (form n) max u old new) f e;
    err = λ n. misfit_passed r f e (none n) h;
    extends = ext;
  }

  -- it is another form, by what stands there
  pub form_there : (other : ℕ → Reader Line) (r : Result (Option PacLine) LineFail) → ((n : ℕ) → form n old ≡ other n old) → ReadsForm other max id t u old new r → ReadsForm form max id t u old new r
  form_there other (Ok given) e h = record {
    ok = λ n g. let there = h.ok n g in record { read = there.read; taken = e n ∙ there.taken; gives = there.gives };
    err = λ n. tt;
    extends = h.extends;
  }
  form_there other (Err f) e h = record {
    ok = λ n g. tt;
    err = λ n. misfit_from f (λ none. e n ∙ none) (h.err n);
    extends = h.extends;
  }
