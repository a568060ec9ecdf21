-- Numbers put at the places of variables.
use Rattle.std.proofs.Common.{◌≡◌, ◌≢◌, ◌⊎◌, ℕ, ◌+◌, ◌<◌, Bool, true, false, ◌||◌, ◌==◌, List, [], ◌∷◌, ◌++◌, length, get_or, set, take, inl, inr, refl, sym, ap, ap₂, subst, ◌∙◌, ⊎_elim, arith, eqb-true, true≢false, get_or-set_same, get_or-set_other}
use Rattle.std.proofs.lemmas.Bool.{cases_Bool, eqb-false}
use Rattle.std.proofs.lemmas.List.{take_more}
use Rattle.std.proofs.lemmas.List.Elements.{Contains-append_left, Contains-push}
use Rattle.std.specs.List.{Contains}
use Rattle.poly_terms.specs.Indexed.{Enters}
use Rattle.poly_terms.specs.Monomials.{has_variable}
use Rattle.poly_terms.proofs.Sparse.{any_default, get_or-more}

pub enters_none : (number : ℕ) (places : List (List ℕ)) → Enters number [] places places
enters_none number places = record { kept = λ v n h. h; entered = λ v has. absurd (true≢false (sym has)) }

has-more : (u v : ℕ) (vs : List ℕ) → has_variable u (vs ++ v ∷ []) ≡ true → (has_variable u vs ≡ true) ⊎ (has_variable u (v ∷ []) ≡ true)
has-more u v [] h = inr h
has-more u v (x ∷ xs) h = go (x == u) (λ g. has-more u v xs g) h
  where
    go : (b : Bool) → (has_variable u (xs ++ v ∷ []) ≡ true → (has_variable u xs ≡ true) ⊎ (has_variable u (v ∷ []) ≡ true)) → (b || has_variable u (xs ++ v ∷ [])) ≡ true →
        ((b || has_variable u xs) ≡ true) ⊎ (has_variable u (v ∷ []) ≡ true)
    go true rest h = inl refl
    go false rest h = rest h

-- the step of a loop over variables
pub enters_more : (number : ℕ) (a b c : List (List ℕ)) (vs : List ℕ) (i v : ℕ) → i < length vs → v ≡ get_or vs i v → Enters number (take i vs) a b → Enters number (v ∷ []) b c →
    Enters number (take (i + 1) vs) a c
enters_more number a b c vs i v low at p q = record {
  kept = λ u n h. q.kept u n (p.kept u n h);
  entered = λ u has.
      ⊎_elim (λ before. q.kept u number (p.entered u before)) (λ here. q.entered u here)
      (has-more u v (take i vs) (subst (λ us. has_variable u us ≡ true) (take_more vs i v low ∙ ap (λ w. take i vs ++ w ∷ []) (sym at)) has));
}

same_or_not : (i n : ℕ) → (i ≡ n) ⊎ (i ≢ n)
same_or_not i n = ⊎_elim (λ t. inl (eqb-true i n t)) (λ f. inr (eqb-false i n f)) (cases_Bool (i == n))

-- a number put after those of a variable
pub enters_one : (number v : ℕ) (old mid new : List (List ℕ)) → ((u : ℕ) → get_or mid u [] ≡ get_or old u []) → v < length mid → new ≡ set mid v (get_or mid v [] ++ number ∷ []) →
    Enters number (v ∷ []) old new
enters_one number v old mid new same low is = record {
  kept = λ u n h.
      let before : Contains (get_or mid u []) n = subst (λ ns. Contains ns n) (sym (same u)) h in
      ⊎_elim
      (λ e. subst (λ ns. Contains ns n) (sym (ap (λ w. get_or new w []) e ∙ here)) (Contains-append_left (get_or mid v []) (number ∷ []) n (subst (λ w. Contains (get_or mid w []) n) e before)))
      (λ other. subst (λ ns. Contains ns n) (sym (ap (λ ps. get_or ps u []) is ∙ get_or-set_other mid v u (get_or mid v [] ++ number ∷ []) [] other)) before)
      (same_or_not u v);
  entered = λ u has. subst (λ w. Contains (get_or new w []) number) (the_one u has) (subst (λ ns. Contains ns number) (sym here) (Contains-push (get_or mid v []) number));
}
  where
    here : get_or new v [] ≡ get_or mid v [] ++ number ∷ []
    here = ap (λ ps. get_or ps v []) is ∙ get_or-set_same mid v (get_or mid v [] ++ number ∷ []) [] low

    the_one : (u : ℕ) → has_variable u (v ∷ []) ≡ true → v ≡ u
    the_one u has = go (v == u) refl has
      where
        go : (b : Bool) → (v == u) ≡ b → (b || false) ≡ true → v ≡ u
        go true e h = eqb-true v u e
        go false e h = absurd (true≢false (sym h))

-- ---- as they are kept

-- one variable more, that has no number
pub with_one_more : (old xs ys : List (List ℕ)) (none : List ℕ) → ys ≡ xs ++ none ∷ [] → none ≡ [] → ((u : ℕ) → get_or xs u [] ≡ get_or old u []) → (u : ℕ) → get_or ys u [] ≡ get_or old u []
with_one_more old xs ys none is empty same u = ap (λ zs. get_or zs u []) (is ∙ ap (λ ns. xs ++ ns ∷ []) empty) ∙ get_or-more xs u [] ∙ same u

pub enters_item : (number v : ℕ) (old mid xs : List (List ℕ)) (item more : List ℕ) → xs ≡ mid → ((u : ℕ) → get_or mid u [] ≡ get_or old u []) → v < length mid → item ≡ get_or xs v item →
    more ≡ item ++ number ∷ [] → Enters number (v ∷ []) old (set xs v more)
enters_item number v old mid xs item more view same low at is =
    let within : v < length xs = omega (arith, low, ap length view) in
    let there : get_or mid v [] ≡ item = ap (λ ps. get_or ps v []) (sym view) ∙ any_default xs v [] item within ∙ sym at in
    enters_one number v old mid (set xs v more) same low (ap₂ (λ ps ns. set ps v ns) view (is ∙ ap (λ ns. ns ++ number ∷ []) (sym there)))

pub others_item : (v : ℕ) (old xs : List (List ℕ)) (item : List ℕ) → xs ≡ old → (u : ℕ) → u ≢ v → get_or (set xs v item) u [] ≡ get_or old u []
others_item v old xs item view u other = get_or-set_other xs v u item [] other ∙ ap (λ ps. get_or ps u []) view
