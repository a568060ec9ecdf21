-- Lines that are lawful over live lines are lawful over more of them, and close alike.
use Rattle.std.specs.Prelude.{IsSome, cond, ◌==◌}
use Rattle.std.proofs.Common.{◌≡◌, ℕ, ◌+◌, ◌*◌, ◌%◌, ◌<◌, ◌≤◌, Bool, true, false, List, [], ◌∷◌, ◌++◌, map, refl, sym, ap, ap₂, subst, ◌∙◌, arith}
use Rattle.std.specs.declared.option.Option.{Option}
use Rattle.std.specs.declared.option.Option.TheVariants.{None, Some}
use Rattle.std.specs.List.{All}
use Rattle.std.proofs.lemmas.Bool.{eqb-true, true≢false}
use Rattle.std.proofs.lemmas.List.Elements.{All-head, All-tail}
use Rattle.graph_core.specs.Graph.Assignments.{Assignment}
use Rattle.graph_core.specs.Graph.Extended.{Extended}
use Rattle.graph_core.specs.Graph.Operands.{Sides}
use Rattle.algebra_core.specs.Polynomials.{Polynomial, value}
use Rattle.algebra_core.specs.AlgebraLines.{LiveLine, Line, Part, Sum, Product, Combination, Import, Delete, Ledger, IsLive, IsNewId, IsLawfulLine, AreLawfulLines, Closes, line_of, value_of, value_or_zero, combined, named, operands, introduce, after, after_all}
use Rattle.algebra_core.specs.Agreement.{AreSame, AreSameImports, LedgersAgree}
use Rattle.algebra_core.proofs.CallerLemmas.{agree_sym, agree_trans, lawful_agrees, line_of-deleted, live_agrees, same_refl, same_sym, same_trans}
use Rattle.pac_checker.specs.Recording.{AreIdsWithin, Covers}

-- ---- a line after others

-- one more lawful line, and the ledger after all
pub lines_more : (m : ℕ) (l : Ledger) (xs : List Line) (x : Line) → AreLawfulLines m l xs → IsLawfulLine m (after_all m l xs) x → AreLawfulLines m l (xs ++ x ∷ []) × (after_all m l (xs ++ x ∷ []) ≡ after m (after_all m l xs) x)
lines_more m l [] x h k = ((k, tt), refl)
lines_more m l (y ∷ xs) x h k = let rest = lines_more m (after m l y) xs x h.1 k in ((h.0, rest.0), rest.1)

-- ---- the same imports

abbrev importing : List (Assignment → ℕ) → Ledger
importing fs = record { live = []; last = 0; imports = fs }

alike : (fs gs : List (Assignment → ℕ)) → AreSameImports fs gs → LedgersAgree (importing fs) (importing gs)
alike fs gs h = record { last = refl; lines = λ id. tt; imports = h }

imports_join : (fs gs hs : List (Assignment → ℕ)) → AreSameImports fs gs → AreSameImports hs gs → AreSameImports fs hs
imports_join fs gs hs a b = (agree_trans (importing fs) (importing gs) (importing hs) (alike fs gs a) (agree_sym (importing hs) (importing gs) (alike hs gs b))).imports

-- ---- what covers what

pub covers_agreeing : (l k j : Ledger) → Covers l k → LedgersAgree j k → Covers l j
covers_agreeing l k j c a = record {
  last = c.last ∙ sym a.last;
  lines = λ id live. same_trans (line_of l.live id) (line_of k.live id) (line_of j.live id) (c.lines id (live_agrees j k a id live)) (same_sym (line_of j.live id) (line_of k.live id) (a.lines id));
  imports = imports_join l.imports k.imports j.imports c.imports a.imports;
}

same_live : (x y : Option LiveLine) → AreSame x y → IsSome y → IsSome x
same_live None None h s = s
same_live None (Some y) h s = absurd h
same_live (Some x) None h s = absurd h
same_live (Some x) (Some y) h s = refl

same_number : (x y : Option LiveLine) → AreSame x y → (σ : Assignment) → value_or_zero x σ ≡ value_or_zero y σ
same_number None None h σ = refl
same_number None (Some y) h σ = absurd h
same_number (Some x) None h σ = absurd h
same_number (Some x) (Some y) h σ = h σ

module _ (m : ℕ) (l k : Ledger) (c : Covers l k) where
  live_covered : (id : ℕ) → IsLive k.live id → IsLive l.live id
  live_covered id live = same_live (line_of l.live id) (line_of k.live id) (c.lines id live) live

  value_covered : (id : ℕ) → IsLive k.live id → (σ : Assignment) → value_of k.live id σ ≡ value_of l.live id σ
  value_covered id live σ = sym (same_number (line_of l.live id) (line_of k.live id) (c.lines id live) σ)

  -- ---- lawful lines

  abbrev AreLive : List ℕ → Type 0
  AreLive ids = All (IsLive k.live) ids

  combined_covered : (parts : List Part) → AreLive (map (λ part. part.id) parts) → (σ : Assignment) → combined m k.live parts σ ≡ combined m l.live parts σ
  combined_covered [] h σ = refl
  combined_covered (p ∷ ps) h σ =
      ap₂ (λ x y. x * value m p.factor σ + y) (value_covered p.id (All-head (IsLive k.live) p.id (map (λ part. part.id) ps) h) σ)
      (combined_covered ps (All-tail (IsLive k.live) p.id (map (λ part. part.id) ps) h) σ)

  -- the live lines of the one, and what the other imports
  abbrev joined : Ledger
  joined = record { live = k.live; last = l.last; imports = l.imports }

  named_covered : (x : Line) → AreLive (operands x) → (σ : Assignment) → named m joined x σ ≡ named m l x σ
  named_covered (Sum id i j p) h σ =
      ap₂ (λ x y. x + y) (value_covered i (All-head (IsLive k.live) i (j ∷ []) h) σ) (value_covered j (All-head (IsLive k.live) j [] (All-tail (IsLive k.live) i (j ∷ []) h)) σ)
  named_covered (Product id i q p) h σ = ap (λ x. x * value m q σ) (value_covered i (All-head (IsLive k.live) i [] h) σ)
  named_covered (Combination id parts p) h σ = combined_covered parts h σ
  named_covered (Import id n p) h σ = refl
  named_covered (Delete id) h σ = refl

  pub lawful_covered : (x : Line) → IsLawfulLine m k x → IsLawfulLine m l x
  lawful_covered x h =
      let w = lawful_agrees m k joined (agree_sym joined k (record { last = c.last; lines = λ id. same_refl (line_of k.live id); imports = c.imports })) x h in
      record {
        new_id = w.new_id;
        live_operands = λ i d low. live_covered _ (w.live_operands i d low);
        there = w.there;
        equal = λ σ. w.equal σ ∙ ap (λ n. n % m) (named_covered x w.live_operands σ);
      }

  pub closes_covered : (e : Extended) (s : Sides) (id : ℕ) → Closes e s k.live id → Closes e s l.live id
  closes_covered e s id h = (live_covered id h.0, λ σ. sym (value_covered id h.0 σ) ∙ h.1 σ)

  -- ---- afterwards

  -- a line that both take
  pub covers_new : (id : ℕ) (p : Polynomial) → Covers (introduce m l id p) (introduce m k id p)
  covers_new id p = record { last = refl; lines = λ other live. go other (id == other) live; imports = c.imports }
    where
      go : (other : ℕ) (b : Bool) → IsSome (cond b (Some (record { id = id; value = value m p })) (line_of k.live other)) →
          AreSame (cond b (Some (record { id = id; value = value m p })) (line_of l.live other)) (cond b (Some (record { id = id; value = value m p })) (line_of k.live other))
      go other true live = λ σ. refl
      go other false live = c.lines other live

  -- a deletion
  pub covers_fewer : (id : ℕ) → Covers l (after m k (Delete id))
  covers_fewer id = record { last = c.last; lines = λ other live. deleted other live; imports = c.imports }
    where
      go : (other : ℕ) (b : Bool) → IsSome (cond b None (line_of k.live other)) → AreSame (line_of l.live other) (cond b None (line_of k.live other))
      go other true live = absurd (true≢false (sym live))
      go other false live = c.lines other live

      deleted : (other : ℕ) → IsLive (after m k (Delete id)).live other → AreSame (line_of l.live other) (line_of (after m k (Delete id)).live other)
      deleted other live =
          subst (AreSame (line_of l.live other)) (sym (line_of-deleted k.live id other)) (go other (other == id) (subst IsSome (line_of-deleted k.live id other) live))

-- ---- ids up to the last one

pub within_agreeing : (l k : Ledger) → LedgersAgree k l → AreIdsWithin l → AreIdsWithin k
within_agreeing l k a h id live = let low = h id (live_agrees k l a id live) in let same = a.last in omega arith

module _ (m : ℕ) (l : Ledger) (h : AreIdsWithin l) where
  within_new : (id : ℕ) (p : Polynomial) → l.last < id → AreIdsWithin (introduce m l id p)
  within_new id p above other live = go (id == other) refl live
    where
      go : (b : Bool) → (id == other) ≡ b → IsSome (cond b (Some (record { id = id; value = value m p })) (line_of l.live other)) → other ≤ id
      go true f live = let same = eqb-true id other f in omega arith
      go false f live = let low = h other live in omega arith

  within_fewer : (id : ℕ) → AreIdsWithin (after m l (Delete id))
  within_fewer id other live = go (other == id) (subst IsSome (line_of-deleted l.live id other) live)
    where
      go : (b : Bool) → IsSome (cond b None (line_of l.live other)) → other ≤ l.last
      go true live = absurd (true≢false (sym live))
      go false live = h other live

  pub within_after : (x : Line) → IsNewId l.last x → AreIdsWithin (after m l x)
  within_after (Sum id i j p) above = within_new id p above
  within_after (Product id i q p) above = within_new id p above
  within_after (Combination id parts p) above = within_new id p above
  within_after (Import id n p) above = within_new id p above
  within_after (Delete id) above = within_fewer id
