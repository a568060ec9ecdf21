-- Each literal of a made graph is made once.
use Rattle.std.specs.declared.option.Option.{Option}
use Rattle.std.specs.declared.option.Option.TheVariants.{None, Some}
use Rattle.std.specs.Prelude.{◌≡◌, ◌≢◌, ℕ, zero, suc, ◌+◌, ◌*◌, ◌<◌, ◌≤◌, ◌⊎◌, cond, List, [], ◌∷◌, length}
use Rattle.std.proofs.Common.{refl, ap, arith, inl, inr, ⊎_elim, eq-eqb, ne_eqb}
use Rattle.std.proofs.lemmas.Bool.{cases_eq, cases_lt}
use Rattle.graph_core.specs.declared.literal.Lit.{Lit}
use Rattle.graph_core.specs.Graph.Literals.{plain, inverted}
use Rattle.graph_maker.specs.Builder.{Builder, with_gates, literals_from}
use Rattle.graph_maker.specs.Products.{product_gates, products}
use Rattle.graph_maker.proofs.Places.{length-product_gates}
use Rattle.enough_budget.proofs.Network.{Cell, size_of, outs, all_outs, word_at, rows_at}
use Rattle.enough_budget.proofs.Needed.{at_literal}

at_cases : (l m : Lit) (k : ℕ) → ((m.0 ≡ l.0) × (at_literal l k m ≡ 1)) ⊎ ((m.0 ≢ l.0) × (at_literal l k m ≡ 0))
at_cases l m k = ⊎_elim (λ e. inl (e, ap (λ b. cond b 1 0) (eq-eqb m.0 l.0 e))) (λ n. inr (n, ap (λ b. cond b 1 0) (ne_eqb m.0 l.0 n))) (cases_eq m.0 l.0)

module _ (l : Lit) where
  -- a sum at most 1, and 0 where the literal is before or after
  record IsOnce (sum low high : ℕ) : Type 0 where
    few : sum ≤ 1
    before : l.0 < low → sum ≡ 0
    behind : high ≤ l.0 → sum ≡ 0

  next : (a b low mid high : ℕ) → low ≤ mid → mid ≤ high → IsOnce a low mid → IsOnce b mid high → IsOnce (a + b) low high
  next a b low mid high i j p q = ⊎_elim
      (λ lt. record { few = omega (arith, p.few, q.before lt); before = λ h. omega (arith, p.before h, q.before lt); behind = λ h. absurd (omega arith) })
      (λ ge. record { few = omega (arith, q.few, p.behind ge); before = λ h. absurd (omega arith); behind = λ h. omega (arith, p.behind ge, q.behind h) })
      (cases_lt l.0 mid)

  literals_once : (k v n : ℕ) → IsOnce (word_at (at_literal l) k (literals_from v n)) (2 * v) (2 * (v + n))
  literals_once k v zero = record { few = omega arith; before = λ h. refl; behind = λ h. refl }
  literals_once k v (suc n) =
      let rest = literals_once (suc k) (v + 1) n in
      let here : IsOnce (at_literal l k (plain v)) (2 * v) (2 * (v + 1)) = ⊎_elim
      (λ e. let i = e.0 in record { few = omega (arith, e.1); before = λ h. absurd (omega arith); behind = λ h. absurd (omega arith) })
      (λ n. let j = n.1 in record { few = omega arith; before = λ h. j; behind = λ h. j }) (at_cases l (plain v) k) in
      let whole = next (at_literal l k (plain v)) (word_at (at_literal l) (suc k) (literals_from (v + 1) n)) (2 * v) (2 * (v + 1)) (2 * (v + 1 + n)) (omega arith) (omega arith) here rest in
      record { few = whole.few; before = whole.before; behind = λ h. whole.behind (omega arith) }

  rows_once : (k : ℕ) (b : Builder) (xs ys : List Lit) → (b.last ≤ (products b xs ys).builder.last) × IsOnce (rows_at (at_literal l) k (products b xs ys).rows) (2 * (b.last + 1)) (2 * ((products b xs ys).builder.last + 1))
  rows_once k b xs [] = (omega arith, record { few = omega arith; before = λ h. refl; behind = λ h. refl })
  rows_once k b xs (y ∷ ys) =
      let c = with_gates b (product_gates b.last xs y) in
      let long = length-product_gates 0 b.last xs y in
      let rest = rows_once (suc k) c xs ys in
      let end = (products c xs ys).builder.last in
      let here = literals_once k (b.last + 1) (length xs) in
      let here' : IsOnce (word_at (at_literal l) k (literals_from (b.last + 1) (length xs))) (2 * (b.last + 1)) (2 * (c.last + 1)) = record { few = here.few; before = here.before; behind = λ h. here.behind (omega arith) } in (
        omega (arith, rest.0, long),
        next (word_at (at_literal l) k (literals_from (b.last + 1) (length xs))) (rows_at (at_literal l) (suc k) (products c xs ys).rows) (2 * (b.last + 1)) (2 * (c.last + 1)) (2 * (end + 1))
            (omega (arith, long)) (omega (arith, rest.0)) here' rest.1,
      )

  outs_once : (k v : ℕ) (c : Option Lit) → IsOnce (outs (at_literal l) k v c) (2 * (v + 1)) (2 * (v + size_of c + 1))
  outs_once k v None = two (at_cases l (plain (v + 3)) k) (at_cases l (plain (v + 1)) (suc k))
    where
      two : ((2 * (v + 3) ≡ l.0) × (at_literal l k (plain (v + 3)) ≡ 1)) ⊎ ((2 * (v + 3) ≢ l.0) × (at_literal l k (plain (v + 3)) ≡ 0)) →
          ((2 * (v + 1) ≡ l.0) × (at_literal l (suc k) (plain (v + 1)) ≡ 1)) ⊎ ((2 * (v + 1) ≢ l.0) × (at_literal l (suc k) (plain (v + 1)) ≡ 0)) → IsOnce (outs (at_literal l) k v None) (2 * (v + 1)) (2 * (v + 3 + 1))
      two p q = ⊎_elim
          (λ a. ⊎_elim (λ b. absurd (omega (arith, a.0, b.0))) (λ b. record { few = omega (arith, a.1, b.1); before = λ h. absurd (omega (arith, a.0)); behind = λ h. absurd (omega (arith, a.0)) }) q)
          (λ a. ⊎_elim (λ b. record { few = omega (arith, a.1, b.1); before = λ h. absurd (omega (arith, b.0)); behind = λ h. absurd (omega (arith, b.0)) })
          (λ b. record { few = omega (arith, a.1, b.1); before = λ h. omega (arith, a.1, b.1); behind = λ h. omega (arith, a.1, b.1) }) q) p
  outs_once k v (Some c) = two (at_cases l (plain (v + 6)) k) (at_cases l (inverted (v + 7)) (suc k))
    where
      two : ((2 * (v + 6) ≡ l.0) × (at_literal l k (plain (v + 6)) ≡ 1)) ⊎ ((2 * (v + 6) ≢ l.0) × (at_literal l k (plain (v + 6)) ≡ 0)) →
          ((2 * (v + 7) + 1 ≡ l.0) × (at_literal l (suc k) (inverted (v + 7)) ≡ 1)) ⊎ ((2 * (v + 7) + 1 ≢ l.0) × (at_literal l (suc k) (inverted (v + 7)) ≡ 0)) →
          IsOnce (outs (at_literal l) k v (Some c)) (2 * (v + 1)) (2 * (v + 7 + 1))
      two p q = ⊎_elim
          (λ a. ⊎_elim (λ b. absurd (omega (arith, a.0, b.0))) (λ b. record { few = omega (arith, a.1, b.1); before = λ h. absurd (omega (arith, a.0)); behind = λ h. absurd (omega (arith, a.0)) }) q)
          (λ a. ⊎_elim (λ b. record { few = omega (arith, a.1, b.1); before = λ h. absurd (omega (arith, b.0)); behind = λ h. absurd (omega (arith, b.0)) })
          (λ b. record { few = omega (arith, a.1, b.1); before = λ h. omega (arith, a.1, b.1); behind = λ h. omega (arith, a.1, b.1) }) q) p

  record IsLater (sum low : ℕ) : Type 0 where
    few : sum ≤ 1
    before : l.0 < low → sum ≡ 0

  all_once : (v : ℕ) (cells : List Cell) → IsLater (all_outs (at_literal l) v cells) (2 * (v + 1))
  all_once v [] = record { few = omega arith; before = λ h. refl }
  all_once v (a ∷ cells) =
      let here = outs_once a.column v a.c in
      let rest = all_once (v + size_of a.c) cells in
      ⊎_elim (λ lt. record { few = omega (arith, here.few, rest.before lt); before = λ h. omega (arith, here.before h, rest.before lt) })
      (λ ge. record { few = omega (arith, rest.few, here.behind ge); before = λ h. absurd (omega arith) })
      (cases_lt l.0 (2 * (v + size_of a.c + 1)))

  pub made_once : (b : Builder) (xs ys : List Lit) (cells : List Cell) → rows_at (at_literal l) 0 (products b xs ys).rows + all_outs (at_literal l) (products b xs ys).builder.last cells ≤ 1
  made_once b xs ys cells =
      let r = rows_once 0 b xs ys in
      let rows = r.1 in
      let rest = all_once (products b xs ys).builder.last cells in
      ⊎_elim (λ lt. omega (arith, rows.few, rest.before lt)) (λ ge. omega (arith, rest.few, rows.behind ge)) (cases_lt l.0 (2 * ((products b xs ys).builder.last + 1)))
