-- What a whole text says, and why it says nothing, by a reader of such texts.
use Rattle.std.specs.Prelude.{◌≡◌, ◌≢◌, ℕ, List, [], ◌∷◌, Result, Ok, Err, IfOk, IfErr, ok_or}
use Rattle.std.specs.declared.option.Option.{Option}
use Rattle.std.specs.declared.option.Option.TheVariants.{None, Some}
use Rattle.std.proofs.Common.{refl, sym, ap, subst, ◌∙◌}
use Rattle.std.proofs.lemmas.Option.{same_Some}
use Rattle.std.proofs.lemmas.List.{append-nil}
use Rattle.graph_core.proofs.OfTexts.CallerLemmas.{IsReaderOf}
use Rattle.graph_core.specs.Text.Readers.{Reader}
use Rattle.mv_text.specs.declared.line_fail.LineFail.{LineFail}
use Rattle.mv_text.specs.declared.line_fail.LineFail.TheVariants as fail
use Rattle.mv_text.specs.Steps.{IsMisfit, Takes}
use Rattle.mv_text.specs.CertificateFiles.{SaysNothing}

nothing : {A : Type 0} (o : Option A) (x : A) → o ≡ None → o ≡ Some x → ⊥
nothing o x e f = let g : None ≡ Some x = sym e ∙ f in absurd (cc)

module _ {X : Type 0} {item : Reader X} {IsText : List ℕ → X → Type 0} {Follows : List ℕ → Type 0} (r : IsReaderOf item IsText Follows) (stop : Follows []) (InRange : X → Type 0) where
  whole : (bytes : List ℕ) (x : X) → item bytes ≡ Some (x, []) → IsText bytes x
  whole bytes x h = let t = r.takes bytes x [] h in subst (λ z. IsText z x) (sym (t.2 ∙ append-nil t.0)) t.1

  pub again : (bytes : List ℕ) (x : X) → IsText bytes x → item bytes ≡ Some (x, [])
  again bytes x h = ap item (sym (append-nil bytes)) ∙ r.again bytes x [] h stop

  pub misfit_refused : (bytes : List ℕ) (f : LineFail) → IsMisfit (item bytes ≡ None) f → SaysNothing IsText InRange bytes f
  misfit_refused bytes fail.Text h = λ x is. nothing (item bytes) (x, []) h (again bytes x is)
  misfit_refused bytes fail.Range h = absurd h
  misfit_refused bytes fail.Fault h = h
  misfit_refused bytes fail.TooLong h = h
  misfit_refused bytes fail.Memory h = tt

  -- ---- the answer where all of the text has to be taken

  pub all_ok : {T : Type 0} (Is : X → T → Type 0) (bytes rest : List ℕ) (given : Option T) (a : Result T LineFail) → (rest ≡ [] → a ≡ ok_or given fail.Range) → (rest ≢ [] → a ≡ Err fail.Text) →
      Takes item InRange Is bytes rest given → IfOk a (λ y. (x : X) × IsText bytes x × InRange x × Is x y)
  all_ok {T} Is bytes [] (Some y) a all left h = subst (λ z. IfOk z (λ y. (x : X) × IsText bytes x × InRange x × Is x y)) (sym (all refl)) (h.read, whole bytes h.read h.taken, h.gives.0, h.gives.1)
  all_ok {T} Is bytes [] None a all left h = subst (λ z. IfOk z (λ y. (x : X) × IsText bytes x × InRange x × Is x y)) (sym (all refl)) tt
  all_ok {T} Is bytes (b ∷ rest) given a all left h = subst (λ z. IfOk z (λ y. (x : X) × IsText bytes x × InRange x × Is x y)) (sym (left (λ e. absurd (cc)))) tt

  pub all_err : {T : Type 0} (Is : X → T → Type 0) (bytes rest : List ℕ) (given : Option T) (a : Result T LineFail) → (rest ≡ [] → a ≡ ok_or given fail.Range) → (rest ≢ [] → a ≡ Err fail.Text) →
      Takes item InRange Is bytes rest given → IfErr a (SaysNothing IsText InRange bytes)
  all_err {T} Is bytes [] (Some y) a all left h = subst (λ z. IfErr z (SaysNothing IsText InRange bytes)) (sym (all refl)) tt
  all_err {T} Is bytes [] None a all left h = subst (λ z. IfErr z (SaysNothing IsText InRange bytes)) (sym (all refl)) (h.read, whole bytes h.read h.taken, h.gives)
  all_err {T} Is bytes (b ∷ rest) given a all left h =
      subst (λ z. IfErr z (SaysNothing IsText InRange bytes)) (sym (left (λ e. absurd (cc))))
      (λ x is. let e = ap (λ p. p.1) (same_Some (h.read, b ∷ rest) (x, []) (sym h.taken ∙ again bytes x is)) in absurd (cc))

  -- so too where code has the very value
  pub same_ok : (bytes rest : List ℕ) (given : Option X) (a : Result X LineFail) → (rest ≡ [] → a ≡ ok_or given fail.Range) → (rest ≢ [] → a ≡ Err fail.Text) → Takes item InRange (λ x y. x ≡ y) bytes rest given →
      IfOk a (λ y. IsText bytes y × InRange y)
  same_ok bytes rest given a all left h = of a (all_ok (λ x y. x ≡ y) bytes rest given a all left h)
    where
      of : (a : Result X LineFail) → IfOk a (λ y. (x : X) × IsText bytes x × InRange x × (x ≡ y)) → IfOk a (λ y. IsText bytes y × InRange y)
      of (Ok y) s = subst (λ z. IsText bytes z × InRange z) s.3 (s.1, s.2)
      of (Err f) s = tt
