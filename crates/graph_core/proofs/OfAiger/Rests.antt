-- What follows the header: what is read is a rest, and a rest is read; a number out of range is found, and it is one.
use Rattle.std.specs.Prelude.{◌≡◌, ◌≢◌, ℕ, zero, suc, ◌≤◌, Bool, true, false, cond, List, [], ◌∷◌, ◌++◌, length, ◌==◌, Some, Result, Ok, Err}
use Rattle.std.specs.List.{AllByRecursion, concat}
use Rattle.std.proofs.Common.{refl, sym, ap, ap₂, subst, ◌∙◌, arith, append_assoc, inl, inr, ⊎_elim, eq-eqb, eqb-true, ne_eqb}
use Rattle.std.proofs.lemmas.Bool.{eqb-false}
use Rattle.graph_core.specs.Text.{IsNumeral, space, newline}
use Rattle.graph_core.specs.Aiger.{Form, Counts, Listing, symbol_bound, IsSymbolLine, IsComment, IsTail}
use Rattle.graph_core.specs.Aiger.Refusal.{IsRest, HasWrongSymbol, HasWrongNumber}
use Rattle.graph_core.specs.Aiger.Reading.{Stop, Wrong, ◌>>=◌, Next, Go, Done, Bad, advance, scan, byte_where, number_below, body_at, name_step, symbol_at, tail_at, rest_at}
use Rattle.graph_core.proofs.OfTexts.Steady.{bind_ok, bind_err, same_Ok}
use Rattle.graph_core.proofs.OfTexts.Numerals.{below_takes, below_again, below_wrong, below_wrong_again}
use Rattle.graph_core.proofs.OfTexts.Lines.{where_takes, where_again, where_not_wrong}
use Rattle.graph_core.proofs.OfGraphs.Gates.{never_wrong}
use Rattle.graph_core.proofs.OfAiger.Bodies.{body_takes, body_again, body_wrong, body_wrong_again}
use Rattle.graph_core.proofs.OfAiger.Tail.{Ends, ends_nil, ends_behind, ends_wrong}

-- ---- names

name_takes : (bytes : List ℕ) (u : Unit {0}) (rest : List ℕ) → scan name_step tt bytes ≡ Ok (u, rest) → (name : List ℕ) × AllByRecursion (λ b. b ≢ newline) name × (bytes ≡ name ++ newline ∷ rest)
name_takes [] u rest h = absurd (cc)
name_takes (b ∷ bytes) u rest h = go (b == newline) refl h (name_takes bytes u rest)
  where
    go : (c : Bool) → (b == newline) ≡ c → advance {S = Unit {0}} (λ t. scan name_step t bytes) b bytes (cond c (Done tt) (Go tt)) ≡ Ok (u, rest) →
        (scan name_step tt bytes ≡ Ok (u, rest) → (name : List ℕ) × AllByRecursion (λ x. x ≢ newline) name × (bytes ≡ name ++ newline ∷ rest)) → (name : List ℕ) × AllByRecursion (λ x. x ≢ newline) name × (b ∷ bytes ≡ name ++ newline ∷ rest)
    go true e f more = let same = same_Ok (tt, bytes) (u, rest) f in ([], tt, ap₂ ◌∷◌ (eqb-true b newline e) (ap (λ p. p.1) same))
    go false e f more = let r = more f in (b ∷ r.0, (eqb-false b newline e, r.1), ap (λ ys. b ∷ ys) r.2)

name_again : (name rest : List ℕ) → AllByRecursion (λ b. b ≢ newline) name → scan name_step tt (name ++ newline ∷ rest) ≡ Ok (tt, rest)
name_again [] rest h = refl
name_again (b ∷ name) rest h =
    ap (λ c. advance {S = Unit {0}} (λ t. scan name_step t (name ++ newline ∷ rest)) b (name ++ newline ∷ rest) (cond c (Done tt) (Go tt))) (ne_eqb b newline h.0) ∙ name_again name rest h.1

name_not_wrong : (bytes here : List ℕ) → scan name_step tt bytes ≡ Err (Wrong here) → ⊥
name_not_wrong bytes here h = never_wrong name_step (λ s b e. not_bad (b == newline) e) bytes tt here h
  where
    not_bad : (c : Bool) → cond {A = Next (Unit {0}) (Unit {0})} c (Done tt) (Go tt) ≡ Bad → ⊥
    not_bad true e = cc
    not_bad false e = cc

-- ---- symbol lines

module _ (c : Counts) where
  symbol_takes : (bytes : List ℕ) (u : Unit {0}) (rest : List ℕ) → symbol_at c bytes ≡ Ok (u, rest) → (line : List ℕ) × IsSymbolLine c line × (bytes ≡ line ++ rest)
  unfolding symbol_at
  symbol_takes bytes u rest h =
      let b = bind_ok (byte_where (symbol_bound c) bytes) (λ b. number_below b.0 b.1 >>= λ n. scan name_step tt n.1) (u, rest) h in
      let n = bind_ok (number_below b.0.0 b.0.1) (λ n. scan name_step tt n.1) (u, rest) b.2 in
      from b.0.0 b.0.1 n.0.0 n.0.1 b.1 n.1 n.2
    where
      from : (bound : ℕ) (digits_on : List ℕ) (n : ℕ) (name_on : List ℕ) → byte_where (symbol_bound c) bytes ≡ Ok (bound, digits_on) → number_below bound digits_on ≡ Ok (n, name_on) → scan name_step tt name_on ≡ Ok (u, rest) →
          (line : List ℕ) × IsSymbolLine c line × (bytes ≡ line ++ rest)
      from bound digits_on n name_on e f g =
          let kind = where_takes (symbol_bound c) bytes bound digits_on e in
          let number = below_takes bound digits_on n name_on f in
          let name = name_takes name_on u rest g in
          let line : List ℕ = kind.0 ∷ (number.0 ++ space ∷ (name.0 ++ newline ∷ [])) in
          let behind_name : name.0 ++ newline ∷ rest ≡ (name.0 ++ newline ∷ []) ++ rest = sym (append_assoc name.0 (newline ∷ []) rest) in (
            kind.0 ∷ (number.0 ++ space ∷ (name.0 ++ newline ∷ [])),
            (kind.0, bound, n, number.0, name.0, kind.1, number.1, number.2, name.1, refl),
            kind.2 ∙ ap (λ ys. kind.0 ∷ ys) (number.3 ∙ ap (λ ys. number.0 ++ space ∷ ys) (name.2 ∙ behind_name) ∙ sym (append_assoc number.0 (space ∷ (name.0 ++ newline ∷ [])) rest)),
          )

  symbol_again : (line rest : List ℕ) → IsSymbolLine c line → symbol_at c (line ++ rest) ≡ Ok (tt, rest)
  unfolding symbol_at
  symbol_again line rest (kind, bound, n, digits, name, means, numeral, less, named, is) =
      ap (λ ys. byte_where (symbol_bound c) ys >>= λ b. (number_below b.0 b.1 >>= λ m. scan name_step tt m.1))
      (ap (λ ys. ys ++ rest) is ∙ ap (λ ys. kind ∷ ys) (append_assoc digits (space ∷ (name ++ newline ∷ [])) rest ∙ ap (λ ys. digits ++ space ∷ ys) (append_assoc name (newline ∷ []) rest))) ∙
      ap (λ o. o >>= λ b. (number_below b.0 b.1 >>= λ m. scan name_step tt m.1)) (where_again (symbol_bound c) kind bound (digits ++ space ∷ (name ++ newline ∷ rest)) means) ∙
      ap (λ o. o >>= λ m. scan name_step tt m.1) (below_again bound digits n (name ++ newline ∷ rest) numeral less) ∙
      name_again name rest named

  -- a symbol's number that is too large
  abbrev WrongHere : List ℕ → List ℕ → Type 0
  WrongHere bytes here = (kind bound n : ℕ) × (digits more : List ℕ) × (symbol_bound c kind ≡ Some bound) × IsNumeral 10 digits n × (bound ≤ n) × (here ≡ digits ++ more) × (bytes ≡ kind ∷ here)

  symbol_wrong : (bytes here : List ℕ) → symbol_at c bytes ≡ Err (Wrong here) → WrongHere bytes here
  unfolding symbol_at
  symbol_wrong bytes here h =
      ⊎_elim (λ e. absurd (where_not_wrong (symbol_bound c) bytes here e))
      (λ b. ⊎_elim (late b.0.0 b.0.1 b.1) (λ n. absurd (name_not_wrong n.0.1 here n.2)) (bind_err (number_below b.0.0 b.0.1) (λ n. scan name_step tt n.1) (Wrong here) b.2))
      (bind_err (byte_where (symbol_bound c) bytes) (λ b. number_below b.0 b.1 >>= λ n. scan name_step tt n.1) (Wrong here) h)
    where
      late : (bound : ℕ) (digits_on : List ℕ) → byte_where (symbol_bound c) bytes ≡ Ok (bound, digits_on) → number_below bound digits_on ≡ Err (Wrong here) → WrongHere bytes here
      late bound digits_on e f =
          let kind = where_takes (symbol_bound c) bytes bound digits_on e in
          let w = below_wrong bound digits_on here f in
          (kind.0, bound, w.1.2, w.1.0, w.1.1, kind.1, w.1.3, w.1.4, sym w.0 ∙ w.1.5, kind.2 ∙ ap (λ ys. kind.0 ∷ ys) w.0)

  symbol_wrong_again : (bytes here : List ℕ) → WrongHere bytes here → symbol_at c bytes ≡ Err (Wrong here)
  unfolding symbol_at
  symbol_wrong_again bytes here (kind, bound, n, digits, more, means, numeral, high, is_here, is) =
      ap (λ ys. byte_where (symbol_bound c) ys >>= λ b. (number_below b.0 b.1 >>= λ m. scan name_step tt m.1)) is ∙
      ap (λ o. o >>= λ b. (number_below b.0 b.1 >>= λ m. scan name_step tt m.1)) (where_again (symbol_bound c) kind bound here means) ∙
      ap (λ ys. number_below bound ys >>= λ m. scan name_step tt m.1) is_here ∙
      ap (λ o. o >>= λ m. scan name_step tt m.1) (below_wrong_again bound digits n more numeral high) ∙ ap (λ ys. Err (Wrong ys)) (sym is_here)

  -- ---- the tail

  symbol_more : (line rest bytes : List ℕ) → IsSymbolLine c line → bytes ≡ line ++ rest → IsTail c rest → IsTail c bytes
  symbol_more line rest bytes s is t = (line ∷ t.0, t.1, (s, t.2), t.3, is ∙ ap (λ ys. line ++ ys) t.4 ∙ sym (append_assoc line (concat t.0) t.1))

  module _ (g : Listing) where
    pub tail_takes : (k : ℕ) (bytes : List ℕ) (x : Listing) → tail_at c g k bytes ≡ Ok x → (g ≡ x) × IsTail c bytes
    tail_takes k [] x h = (same_Ok g x h, ([], [], tt, tt, refl))
    tail_takes zero (b ∷ bytes) x h = absurd (cc)
    tail_takes (suc k) (b ∷ bytes) x h = go (b == 99) refl h (λ rest. tail_takes k rest x)
      where
        go : (d : Bool) → (b == 99) ≡ d → cond d (Ok g) (symbol_at c (b ∷ bytes) >>= λ s. tail_at c g k s.1) ≡ Ok x →
            ((rest : List ℕ) → tail_at c g k rest ≡ Ok x → (g ≡ x) × IsTail c rest) → (g ≡ x) × IsTail c (b ∷ bytes)
        go true e f more = (same_Ok g x f, ([], b ∷ bytes, tt, eqb-true b 99 e, refl))
        go false e f more =
            let s = bind_ok (symbol_at c (b ∷ bytes)) (λ s. tail_at c g k s.1) x f in
            let line = symbol_takes (b ∷ bytes) s.0.0 s.0.1 s.1 in
            let r = more s.0.1 s.2 in
            (r.0, symbol_more line.0 s.0.1 (b ∷ bytes) line.1 line.2 r.1)

    comment_ends : (comment : List ℕ) → IsComment comment → Ends c g comment (Ok g)
    comment_ends [] h = ends_nil c g
    comment_ends (b ∷ bytes) h = λ j few. go j few
      where
        go : (j : ℕ) → length (b ∷ bytes) ≤ j → tail_at c g j (b ∷ bytes) ≡ Ok g
        go zero few = absurd (omega arith)
        go (suc j) few = ap (λ d. cond d (Ok g) (symbol_at c (b ∷ bytes) >>= λ s. tail_at c g j s.1)) (eq-eqb b 99 h)

    -- what follows symbol lines decides
    symbols_end : (symbols : List (List ℕ)) (after : List ℕ) (r : Result Listing Stop) → AllByRecursion (IsSymbolLine c) symbols → Ends c g after r → Ends c g (concat symbols ++ after) r
    symbols_end [] after r h e = e
    symbols_end (line ∷ symbols) after r h e =
        subst (λ ys. Ends c g ys r) (sym (append_assoc line (concat symbols) after))
        (ends_behind c g (line ++ (concat symbols ++ after)) tt (concat symbols ++ after) r (symbol_again line (concat symbols ++ after) h.0) (symbols_end symbols after r h.1 e))

    pub tail_again : (bytes : List ℕ) → IsTail c bytes → Ends c g bytes (Ok g)
    tail_again bytes h = subst (λ ys. Ends c g ys (Ok g)) (sym h.4) (symbols_end h.0 h.1 (Ok g) h.2 (comment_ends h.1 h.3))

    wrong_more : (line rest bytes here : List ℕ) → IsSymbolLine c line → bytes ≡ line ++ rest → HasWrongSymbol c rest here → HasWrongSymbol c bytes here
    wrong_more line rest bytes here s is (symbols, kind, bound, n, digits, more, all, means, numeral, high, is_here, ends) =
        (line ∷ symbols, kind, bound, n, digits, more, (s, all), means, numeral, high, is_here, is ∙ ap (λ ys. line ++ ys) ends ∙ sym (append_assoc line (concat symbols) (kind ∷ here)))

    pub tail_wrong : (k : ℕ) (bytes here : List ℕ) → tail_at c g k bytes ≡ Err (Wrong here) → HasWrongSymbol c bytes here
    tail_wrong k [] here h = absurd (cc)
    tail_wrong zero (b ∷ bytes) here h = absurd (cc)
    tail_wrong (suc k) (b ∷ bytes) here h = go (b == 99) refl h (λ rest. tail_wrong k rest here)
      where
        first : WrongHere (b ∷ bytes) here → HasWrongSymbol c (b ∷ bytes) here
        first (kind, bound, n, digits, more, means, numeral, high, is_here, is) = ([], kind, bound, n, digits, more, tt, means, numeral, high, is_here, is)

        go : (d : Bool) → (b == 99) ≡ d → cond d (Ok g) (symbol_at c (b ∷ bytes) >>= λ s. tail_at c g k s.1) ≡ Err (Wrong here) →
            ((rest : List ℕ) → tail_at c g k rest ≡ Err (Wrong here) → HasWrongSymbol c rest here) → HasWrongSymbol c (b ∷ bytes) here
        go true e f more = absurd (cc)
        go false e f more =
            ⊎_elim (λ q. first (symbol_wrong (b ∷ bytes) here q))
            (λ s. let line = symbol_takes (b ∷ bytes) s.0.0 s.0.1 s.1 in wrong_more line.0 s.0.1 (b ∷ bytes) here line.1 line.2 (more s.0.1 s.2))
            (bind_err (symbol_at c (b ∷ bytes)) (λ s. tail_at c g k s.1) (Wrong here) f)

    pub tail_wrong_again : (bytes here : List ℕ) → HasWrongSymbol c bytes here → Ends c g bytes (Err (Wrong here))
    tail_wrong_again bytes here (symbols, kind, bound, n, digits, more, all, means, numeral, high, is_here, ends) =
        subst (λ ys. Ends c g ys (Err (Wrong here))) (sym ends)
        (symbols_end symbols (kind ∷ here) (Err (Wrong here)) all (ends_wrong c g (kind ∷ here) here (symbol_wrong_again (kind ∷ here) here (kind, bound, n, digits, more, means, numeral, high, is_here, refl))))

-- ---- the whole rest

module _ (form : Form) (c : Counts) where
  pub rest_takes : (bytes : List ℕ) (g : Listing) → rest_at form c bytes ≡ Ok g → IsRest form c g bytes
  unfolding rest_at
  rest_takes bytes g h =
      let b = bind_ok (body_at form c bytes) (λ x. tail_at c x.0 (length x.1) x.1) g h in
      let t = tail_takes c b.0.0 (length b.0.1) b.0.1 g b.2 in
      let r = body_takes form c bytes g b.0.1 (b.1 ∙ ap (λ x. Ok (x, b.0.1)) t.0) in
      (r.0, (b.0.1, r.1, t.1))

  pub rest_again : (bytes : List ℕ) (g : Listing) → IsRest form c g bytes → rest_at form c bytes ≡ Ok g
  unfolding rest_at
  rest_again bytes g h =
      ap (λ o. o >>= λ x. tail_at c x.0 (length x.1) x.1) (body_again form c g bytes h.1.0 h.0 h.1.1) ∙ tail_again c g h.1.0 h.1.2 (length h.1.0) (omega arith)

  pub rest_wrong : (bytes here : List ℕ) → rest_at form c bytes ≡ Err (Wrong here) → HasWrongNumber form c bytes here
  unfolding rest_at
  rest_wrong bytes here h =
      ⊎_elim (λ e. inr (body_wrong form c bytes here e))
      (λ b. let r = body_takes form c bytes b.0.0 b.0.1 b.1 in inl (b.0.0, b.0.1, r.0, r.1, tail_wrong c b.0.0 (length b.0.1) b.0.1 here b.2))
      (bind_err (body_at form c bytes) (λ x. tail_at c x.0 (length x.1) x.1) (Wrong here) h)

  pub rest_wrong_again : (bytes here : List ℕ) → HasWrongNumber form c bytes here → rest_at form c bytes ≡ Err (Wrong here)
  unfolding rest_at
  rest_wrong_again bytes here (inl (g, after, e, b, w)) =
      ap (λ o. o >>= λ x. tail_at c x.0 (length x.1) x.1) (body_again form c g bytes after e b) ∙ tail_wrong_again c g after here w (length after) (omega arith)
  rest_wrong_again bytes here (inr w) = ap (λ o. o >>= λ x. tail_at c x.0 (length x.1) x.1) (body_wrong_again form c bytes here w.0 w.1)
