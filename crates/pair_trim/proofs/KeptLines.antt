-- Lines that nothing uses may be left out of an algebra certificate.
use Rattle.std.specs.Prelude.{IsSome, cond, ◌==◌}
use Rattle.std.proofs.Common.{◌≡◌, ℕ, ◌+◌, ◌*◌, ◌%◌, ◌<◌, ◌≤◌, Bool, true, false, List, [], ◌∷◌, map, refl, sym, ap, ap₂, subst, ◌∙◌, arith}
use Rattle.std.specs.declared.option.Option.{Option}
use Rattle.std.specs.declared.option.Option.TheVariants.{None, Some}
use Rattle.std.specs.List.{All, filter}
use Rattle.std.proofs.lemmas.Bool.{eqb-true}
use Rattle.std.proofs.lemmas.List.Elements.{All-head, All-tail}
use Rattle.graph_core.specs.Graph.Assignments.{Assignment}
use Rattle.graph_core.specs.Graph.Extended.{Extended, modulus}
use Rattle.graph_core.specs.Graph.Operands.{Sides}
use Rattle.algebra_core.specs.Polynomials.{Polynomial, value}
use Rattle.algebra_core.specs.AlgebraLines.{LiveLine, Line, Part, Sum, Product, Combination, Import, Delete, Ledger, Premises, IsLive, IsNewId, IsThere, IsLawfulLine, AreLawful, AreLawfulLines, beginning, line_of, value_of, value_or_zero, import_of, import_or_zero, combined, named, operands, stated, introduce, after, after_all}
use Rattle.algebra_core.proofs.CallerLemmas.{line_of-deleted}
use Rattle.pair_trim.specs.KeptLines.{AreIdsClosed, IsImportKept, KeptLinesAreLawful, is_kept, kept_lines, renumbered}

-- what is live in the first under an id that is kept is live in the second; what each may import stays
record Holds (keeps : ℕ → Bool) (imports others : List (Assignment → ℕ)) (l k : Ledger) : Type 0 where
  last : k.last ≤ l.last
  lines : (id : ℕ) (y : LiveLine) → keeps id ≡ true → line_of l.live id ≡ Some y → line_of k.live id ≡ Some y
  first_imports : l.imports ≡ imports
  other_imports : k.imports ≡ others

some_of : (o : Option LiveLine) → IsSome o → (y : LiveLine) × (o ≡ Some y)
some_of None h = absurd (cc)
some_of (Some y) h = (y, refl)

-- ---- a line by another number

same_operands : (number : ℕ → ℕ) (x : Line) → operands (renumbered number x) ≡ operands x
same_operands number (Sum id i j p) = refl
same_operands number (Product id i q p) = refl
same_operands number (Combination id parts p) = refl
same_operands number (Import id n p) = refl
same_operands number (Delete id) = refl

same_stated : (number : ℕ → ℕ) (x : Line) → stated (renumbered number x) ≡ stated x
same_stated number (Sum id i j p) = refl
same_stated number (Product id i q p) = refl
same_stated number (Combination id parts p) = refl
same_stated number (Import id n p) = refl
same_stated number (Delete id) = refl

-- ---- one line

module _ (m : ℕ) (keeps : ℕ → Bool) (number : ℕ → ℕ) (imports others : List (Assignment → ℕ)) (l k : Ledger) (h : Holds keeps imports others l k) where
  same_line : (id : ℕ) → keeps id ≡ true → IsLive l.live id → line_of k.live id ≡ line_of l.live id
  same_line id kept live = let s = some_of (line_of l.live id) live in h.lines id s.0 kept s.1 ∙ sym s.1

  live_kept : (id : ℕ) → keeps id ≡ true → IsLive l.live id → IsLive k.live id
  live_kept id kept live = subst IsSome (sym (same_line id kept live)) live

  value_kept : (id : ℕ) → keeps id ≡ true → IsLive l.live id → (σ : Assignment) → value_of k.live id σ ≡ value_of l.live id σ
  value_kept id kept live σ = ap (λ o. value_or_zero o σ) (same_line id kept live)

  abbrev AreKept : List ℕ → Type 0
  AreKept ids = All (λ id. keeps id ≡ true) ids

  abbrev AreLiveAll : List ℕ → Type 0
  AreLiveAll ids = All (IsLive l.live) ids

  combined_kept : (parts : List Part) → AreKept (map (λ part. part.id) parts) → AreLiveAll (map (λ part. part.id) parts) → (σ : Assignment) → combined m k.live parts σ ≡ combined m l.live parts σ
  combined_kept [] a b σ = refl
  combined_kept (p ∷ ps) a b σ =
      ap₂ (λ x y. x * value m p.factor σ + y) (value_kept p.id (All-head (λ id. keeps id ≡ true) p.id (map (λ part. part.id) ps) a) (All-head (IsLive l.live) p.id (map (λ part. part.id) ps) b) σ)
      (combined_kept ps (All-tail (λ id. keeps id ≡ true) p.id (map (λ part. part.id) ps) a) (All-tail (IsLive l.live) p.id (map (λ part. part.id) ps) b) σ)

  named_kept : (x : Line) → AreKept (operands x) → AreLiveAll (operands x) → IsImportKept imports others number x → (σ : Assignment) → named m k (renumbered number x) σ ≡ named m l x σ
  named_kept (Sum id i j p) a b has σ =
      ap₂ (λ x y. x + y) (value_kept i (All-head (λ n. keeps n ≡ true) i (j ∷ []) a) (All-head (IsLive l.live) i (j ∷ []) b) σ)
      (value_kept j (All-head (λ n. keeps n ≡ true) j [] (All-tail (λ n. keeps n ≡ true) i (j ∷ []) a)) (All-head (IsLive l.live) j [] (All-tail (IsLive l.live) i (j ∷ []) b)) σ)
  named_kept (Product id i q p) a b has σ = ap (λ x. x * value m q σ) (value_kept i (All-head (λ n. keeps n ≡ true) i [] a) (All-head (IsLive l.live) i [] b) σ)
  named_kept (Combination id parts p) a b has σ = combined_kept parts a b σ
  named_kept (Import id n p) a b has σ =
      ap (λ (fs : List (Assignment → ℕ)). import_or_zero (import_of fs (number n)) σ) h.other_imports ∙
      (has.1 σ ∙ ap (λ (fs : List (Assignment → ℕ)). import_or_zero (import_of fs n) σ) (sym h.first_imports))
  named_kept (Delete id) a b has σ = refl

  new_kept : (x : Line) → IsNewId l.last x → IsNewId k.last (renumbered number x)
  new_kept (Sum id i j p) n = let low = h.last in omega arith
  new_kept (Product id i q p) n = let low = h.last in omega arith
  new_kept (Combination id parts p) n = let low = h.last in omega arith
  new_kept (Import id i p) n = let low = h.last in omega arith
  new_kept (Delete id) n = tt

  there_kept : (x : Line) → IsImportKept imports others number x → IsThere k.imports (renumbered number x)
  there_kept (Sum id i j p) has = tt
  there_kept (Product id i q p) has = tt
  there_kept (Combination id parts p) has = tt
  there_kept (Import id n p) has = subst (λ (fs : List (Assignment → ℕ)). IsSome (import_of fs (number n))) (sym h.other_imports) has.0
  there_kept (Delete id) has = tt

  lawful_kept : (x : Line) → AreKept (operands x) → IsImportKept imports others number x → IsLawfulLine m l x → IsLawfulLine m k (renumbered number x)
  lawful_kept x kept has w = record {
    new_id = new_kept x w.new_id;
    live_operands = subst (All (IsLive k.live)) (sym (same_operands number x)) (λ i d low. live_kept _ (kept i d low) (w.live_operands i d low));
    there = there_kept x has;
    equal = λ σ. ap (λ (p : Polynomial). value m p σ) (same_stated number x) ∙ (w.equal σ ∙ ap (λ n. n % m) (sym (named_kept x kept w.live_operands has σ)));
  }

  -- a line that both take
  both : (id : ℕ) (p : Polynomial) → Holds keeps imports others (introduce m l id p) (introduce m k id p)
  both id p = record { last = omega arith; lines = λ other y kept e. go other y kept (id == other) e; first_imports = h.first_imports; other_imports = h.other_imports }
    where
      go : (other : ℕ) (y : LiveLine) → keeps other ≡ true → (b : Bool) → cond b (Some (record { id = id; value = value m p })) (line_of l.live other) ≡ Some y →
          cond b (Some (record { id = id; value = value m p })) (line_of k.live other) ≡ Some y
      go other y kept true e = e
      go other y kept false e = h.lines other y kept e

  -- a line that the first alone takes
  first : (id : ℕ) (p : Polynomial) → keeps id ≡ false → l.last < id → Holds keeps imports others (introduce m l id p) k
  first id p left new = record { last = let low = h.last in omega arith; lines = λ other y kept e. go other y kept (id == other) refl e; first_imports = h.first_imports; other_imports = h.other_imports }
    where
      go : (other : ℕ) (y : LiveLine) → keeps other ≡ true → (b : Bool) → (id == other) ≡ b → cond b (Some (record { id = id; value = value m p })) (line_of l.live other) ≡ Some y → line_of k.live other ≡ Some y
      go other y kept true f e = let is : keeps id ≡ true = ap keeps (eqb-true id other f) ∙ kept in absurd (cc)
      go other y kept false f e = h.lines other y kept e

  taken : (x : Line) → is_kept keeps x ≡ true → Holds keeps imports others (after m l x) (after m k (renumbered number x))
  taken (Sum id i j p) kept = both id p
  taken (Product id i q p) kept = both id p
  taken (Combination id parts p) kept = both id p
  taken (Import id n p) kept = both id p
  taken (Delete id) kept = absurd (cc)

  left_out : (x : Line) → is_kept keeps x ≡ false → IsNewId l.last x → Holds keeps imports others (after m l x) k
  left_out (Sum id i j p) left new = first id p left new
  left_out (Product id i q p) left new = first id p left new
  left_out (Combination id parts p) left new = first id p left new
  left_out (Import id n p) left new = first id p left new
  left_out (Delete id) left new = record { last = h.last; lines = λ other y kept e. go other y kept (other == id) (sym (line_of-deleted l.live id other) ∙ e); first_imports = h.first_imports; other_imports = h.other_imports }
    where
      go : (other : ℕ) (y : LiveLine) → keeps other ≡ true → (b : Bool) → cond b None (line_of l.live other) ≡ Some y → line_of k.live other ≡ Some y
      go other y kept true e = absurd (cc)
      go other y kept false e = h.lines other y kept e

-- ---- all lines

module _ (m : ℕ) (keeps : ℕ → Bool) (number : ℕ → ℕ) (imports others : List (Assignment → ℕ)) where
  abbrev IsClosed : Line → Type 0
  IsClosed x = is_kept keeps x ≡ true → All (λ id. keeps id ≡ true) (operands x)

  abbrev HasImport : Line → Type 0
  HasImport x = is_kept keeps x ≡ true → IsImportKept imports others number x

  all_kept : (lines : List Line) (l k : Ledger) → Holds keeps imports others l k → AreLawfulLines m l lines → All IsClosed lines → All HasImport lines →
      AreLawfulLines m k (kept_lines keeps number lines) × Holds keeps imports others (after_all m l lines) (after_all m k (kept_lines keeps number lines))
  all_kept [] l k h w closed has = (tt, h)
  all_kept (x ∷ xs) l k h w closed has = go (λ l' k' h' w'. all_kept xs l' k' h' w' (All-tail IsClosed x xs closed) (All-tail HasImport x xs has)) (is_kept keeps x) refl
    where
      go : ((l' k' : Ledger) → Holds keeps imports others l' k' → AreLawfulLines m l' xs → AreLawfulLines m k' (kept_lines keeps number xs) × Holds keeps imports others (after_all m l' xs) (after_all m k' (kept_lines keeps number xs))) →
          (b : Bool) → is_kept keeps x ≡ b →
          AreLawfulLines m k (map (renumbered number) (cond b (x ∷ filter (is_kept keeps) xs) (filter (is_kept keeps) xs))) ×
          Holds keeps imports others (after_all m (after m l x) xs) (after_all m k (map (renumbered number) (cond b (x ∷ filter (is_kept keeps) xs) (filter (is_kept keeps) xs))))
      go next true e =
          let r = next (after m l x) (after m k (renumbered number x)) (taken m keeps number imports others l k h x e) w.1 in
          ((lawful_kept m keeps number imports others l k h x (All-head IsClosed x xs closed e) (All-head HasImport x xs has e) w.0, r.0), r.1)
      go next false e = next (after m l x) k (left_out m keeps number imports others l k h x e w.0.new_id) w.1

-- over one extended graph
kept_over : (version : ℕ) (p : Premises) (others : List (Assignment → ℕ)) (s : Sides) (keeps : ℕ → Bool) (number : ℕ → ℕ) (lines : List Line) (closing : ℕ) → AreLawful p s lines closing →
    AreIdsClosed keeps lines closing → All (λ x. is_kept keeps x ≡ true → IsImportKept p.imports others number x) lines →
    AreLawful (record { version = version; extended = p.extended; imports = others }) s (kept_lines keeps number lines) closing
kept_over version p others s keeps number lines closing w closed has =
    let q : Premises = record { version = version; extended = p.extended; imports = others } in
    let m = modulus p.extended in
    let r = all_kept m keeps number p.imports others lines (beginning p) (beginning q) (record { last = omega arith; lines = λ id y kept is. is; first_imports = refl; other_imports = refl }) w.0 closed.operands_kept has in
    let old = after_all m (beginning p) lines in
    let new = after_all m (beginning q) (kept_lines keeps number lines) in (
      r.0,
      (live_kept m keeps number p.imports others old new r.1 closing closed.closing_kept w.1.0, λ σ. value_kept m keeps number p.imports others old new r.1 closing closed.closing_kept w.1.0 σ ∙ w.1.1 σ),
    )

pub kept_lines_are_lawful : KeptLinesAreLawful
kept_lines_are_lawful p q s keeps number lines closing w closed kept =
    subst (λ (e : Extended). AreLawful (record { version = q.version; extended = e; imports = q.imports }) s (kept_lines keeps number lines) closing) (sym kept.extended)
    (kept_over q.version p q.imports s keeps number lines closing w closed kept.imports)
