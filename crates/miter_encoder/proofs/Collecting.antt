-- The clause of some literals, one literal after the other.
use Rattle.std.specs.Prelude.{◌≡◌, ◌≢◌, ℕ, zero, suc, ◌+◌, ◌%◌, ◌<◌, ◌≤◌, ◌^◌, Bool, true, false, cond, List, [], ◌∷◌, ◌++◌, drop, length, ℤ, pos, neg_ℤ, slice_index_or, ◌==◌}
use Rattle.std.specs.declared.option.Option.{Option}
use Rattle.std.specs.declared.option.Option.TheVariants.{None, Some}
use Rattle.std.specs.Option.{option_map}
use Rattle.std.proofs.Common.{refl, sym, ap, ◌∙◌, arith, append_assoc, eq-eqb, ne_eqb}
use Rattle.std.proofs.lemmas.List.{append-nil}
use Rattle.std.proofs.lemmas.List.Elements.{All-push}
use Rattle.graph_core.specs.declared.literal.Lit.{Lit}
use Rattle.graph_core.specs.Graph.Literals.{variable_of}
use Rattle.clause_core.specs.Clause.{Clause, IsLiteral}
use Rattle.clause_core.specs.GateClauses.{clause_of, signed_of}
use Rattle.miter_encoder.proofs.Words.{Collects}

drop_here : {X : Type 0} (xs : List X) (n : ℕ) (d : X) → n < length xs → drop n xs ≡ slice_index_or xs n d ∷ drop (n + 1) xs
drop_here [] n d h = absurd (omega arith)
drop_here (x ∷ xs) zero d h = refl
drop_here (x ∷ xs) (suc n) d h =
    let up : suc (n + 1) ≡ suc n + 1 = omega arith in
    drop_here xs n d (omega arith) ∙ ap (λ m. slice_index_or xs n d ∷ drop m (x ∷ xs)) up

drop_past : {X : Type 0} (xs : List X) (n : ℕ) → length xs ≤ n → drop n xs ≡ []
drop_past [] zero h = refl
drop_past [] (suc n) h = refl
drop_past (x ∷ xs) zero h = absurd (omega arith)
drop_past (x ∷ xs) (suc n) h = drop_past xs n (omega arith)

pub clause_of-one : (l : Lit) (ls : List Lit) → l.0 ≡ 1 → clause_of (l ∷ ls) ≡ None
clause_of-one l ls e = ap (λ b. cond b None (cond (l.0 == 0) (clause_of ls) (option_map (λ c. signed_of l ∷ c) (clause_of ls)))) (eq-eqb l.0 1 e)

pub clause_of-zero : (l : Lit) (ls : List Lit) → l.0 ≡ 0 → clause_of (l ∷ ls) ≡ clause_of ls
clause_of-zero l ls e =
    ap (λ b. cond b None (cond (l.0 == 0) (clause_of ls) (option_map (λ c. signed_of l ∷ c) (clause_of ls)))) (ne_eqb l.0 1 (λ f. absurd (omega arith))) ∙
    ap (λ b. cond b (clause_of ls) (option_map (λ c. signed_of l ∷ c) (clause_of ls))) (eq-eqb l.0 0 e)

pub clause_of-other : (l : Lit) (ls : List Lit) → l.0 ≢ 1 → l.0 ≢ 0 → clause_of (l ∷ ls) ≡ option_map (λ c. signed_of l ∷ c) (clause_of ls)
clause_of-other l ls e f =
    ap (λ b. cond b None (cond (l.0 == 0) (clause_of ls) (option_map (λ c. signed_of l ∷ c) (clause_of ls)))) (ne_eqb l.0 1 e) ∙
    ap (λ b. cond b (clause_of ls) (option_map (λ c. signed_of l ∷ c) (clause_of ls))) (ne_eqb l.0 0 f)

map_twice : (items : List ℤ) (x : ℤ) (o : Option Clause) → option_map (λ c. items ++ c) (option_map (λ c. x ∷ c) o) ≡ option_map (λ c. (items ++ x ∷ []) ++ c) o
map_twice items x None = refl
map_twice items x (Some c) = ap Some (sym (append_assoc items (x ∷ []) c))

signed_small : (l : Lit) → l.0 < 2 ^ 32 → 0 < variable_of l → IsLiteral (signed_of l)
signed_small l small some = go (l.0 % 2 == 0)
  where
    minus : (v : ℕ) → 0 < v → v < 2 ^ 31 → IsLiteral (neg_ℤ (pos v))
    minus zero h k = absurd (omega arith)
    minus (suc v) h k = (λ e. absurd (cc), k)

    plus : (v : ℕ) → 0 < v → v < 2 ^ 31 → IsLiteral (pos v)
    plus v h k = ((λ e. let z : v ≡ 0 = cc in absurd (omega arith)), k)

    go : (b : Bool) → IsLiteral (cond b (pos (variable_of l)) (neg_ℤ (pos (variable_of l))))
    go true = plus (variable_of l) some (omega arith)
    go false = minus (variable_of l) some (omega arith)

module _ (items : List ℤ) (lits : List Lit) (n : ℕ) (d : Lit) (h : Collects items lits n) (below : n < length lits) where
  abbrev here : Lit
  here = slice_index_or lits n d

  pub collects_zero : here.0 ≡ 0 → Collects items lits (n + 1)
  collects_zero e = record { literals = h.literals; whole = h.whole ∙ ap (option_map (λ c. items ++ c)) (ap clause_of (drop_here lits n d below) ∙ clause_of-zero here (drop (n + 1) lits) e) }

  pub collects_more : here.0 ≢ 1 → here.0 ≢ 0 → here.0 < 2 ^ 32 → Collects (items ++ signed_of here ∷ []) lits (n + 1)
  collects_more e f small = record {
    literals = All-push IsLiteral items (signed_of here) h.literals (signed_small here small (omega arith));
    whole = h.whole ∙ ap (option_map (λ c. items ++ c)) (ap clause_of (drop_here lits n d below) ∙ clause_of-other here (drop (n + 1) lits) e f) ∙ map_twice items (signed_of here) (clause_of (drop (n + 1) lits));
  }

pub collected : (items : List ℤ) (lits : List Lit) (n : ℕ) → Collects items lits n → length lits ≤ n → clause_of lits ≡ Some items
collected items lits n h end = h.whole ∙ ap (λ ls. option_map (λ c. items ++ c) (clause_of ls)) (drop_past lits n end) ∙ ap Some (append-nil items)
