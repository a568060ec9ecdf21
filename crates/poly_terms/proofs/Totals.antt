-- What the sum of two lists of entries totals.
use Rattle.std.proofs.Common.{◌≡◌, ℕ, ◌+◌, ◌*◌, ◌%◌, ◌<◌, Bool, true, false, cond, ◌==◌, length, get_or, drop, [], ◌∷◌, refl, sym, ap, ◌∙◌, arith, eqb-true}
use Rattle.std.proofs.lemmas.Map.Lookups.{exact_unsigned}
use Rattle.std.specs.declared.cmp.Ordering.{Ordering}
use Rattle.std.specs.declared.cmp.Ordering.TheVariants.{Less, Equal, Greater}
use Rattle.poly_terms.specs.Merges.{chosen_of_two}
use Rattle.poly_terms.specs.Entries.{entry_order, add_entries, plus, total, Sum, Entry}
use Rattle.std.proofs.Math.Nat.{mod-add-mod}
use Rattle.poly_terms.proofs.Merging.{begins}
use Rattle.poly_terms.proofs.Residues.{plus_same, factor_reduced}

pub total-add_entries : (m : ℕ) (f : ℕ → ℕ) (x y : Entry) (rest : Sum) (s : ℕ) → x.0 ≡ y.0 → total f rest % m ≡ s % m →
    total f (add_entries m x y rest) % m ≡ (x.1 * f x.0 + (y.1 * f y.0 + s)) % m
total-add_entries m f x y rest s e h = go ((x.1 + y.1) % m == 0) refl ∙ plus_same m ((x.1 + y.1) % m * f x.0) (total f rest) s h ∙ factor_reduced m (x.1 + y.1) (f x.0) s ∙
    ap (λ n. n % m) (omega (arith, ap (λ k. y.1 * f k) e))
  where
    go : (b : Bool) → ((x.1 + y.1) % m == 0) ≡ b → total f (cond b rest ((x.0, (x.1 + y.1) % m) ∷ rest)) % m ≡ ((x.1 + y.1) % m * f x.0 + total f rest) % m
    go true t = let none = eqb-true ((x.1 + y.1) % m) 0 t in ap (λ n. n % m) (omega (arith, ap (λ n. n * f x.0) none))
    go false t = refl

total-into : (m : ℕ) (f : ℕ → ℕ) (x : Entry) (xs : Sum) → ((ys : Sum) → total f (plus m xs ys) % m ≡ (total f xs + total f ys) % m) →
    (ys : Sum) → total f (plus m (x ∷ xs) ys) % m ≡ (total f (x ∷ xs) + total f ys) % m
total-into m f x xs before [] = plus_same m (x.1 * f x.0) (total f (plus m xs [])) (total f xs + 0) (before []) ∙ ap (λ n. n % m) (omega arith)
total-into m f x xs before (y ∷ ys) = go (total-into m f x xs before ys) (entry_order x y) refl
  where
    go : total f (plus m (x ∷ xs) ys) % m ≡ (total f (x ∷ xs) + total f ys) % m → (o : Ordering) → entry_order x y ≡ o →
        total f (chosen_of_two (add_entries m) o x y (plus m xs (y ∷ ys)) (plus m xs ys) (plus m (x ∷ xs) ys)) % m ≡ (total f (x ∷ xs) + total f (y ∷ ys)) % m
    go later Less e = plus_same m (x.1 * f x.0) (total f (plus m xs (y ∷ ys))) (total f xs + total f (y ∷ ys)) (before (y ∷ ys)) ∙ ap (λ n. n % m) (omega arith)
    go later Equal e = total-add_entries m f x y (plus m xs ys) (total f xs + total f ys) (exact_unsigned x.0 y.0 e) (before ys) ∙ ap (λ n. n % m) (omega arith)
    go later Greater e = plus_same m (y.1 * f y.0) (total f (plus m (x ∷ xs) ys)) (total f (x ∷ xs) + total f ys) later ∙ ap (λ n. n % m) (omega arith)

-- the sum of two lists totals the sum
pub total-plus : (m : ℕ) (f : ℕ → ℕ) (xs ys : Sum) → total f (plus m xs ys) % m ≡ (total f xs + total f ys) % m
total-plus m f [] ys = ap (λ n. n % m) (omega arith)
total-plus m f (x ∷ xs) ys = total-into m f x xs (λ zs. total-plus m f xs zs) ys

-- an entry that counts, and one that doesn't, in a loop that adds up
pub counted : (m : ℕ) (f : ℕ → ℕ) (sum s : ℕ) (es : Sum) (i : ℕ) (e : Entry) → i < length es → e ≡ get_or es i e → 1 ≡ f e.0 → s ≡ (sum + e.1) % m →
    (s + total f (drop (i + 1) es)) % m ≡ (sum + total f (drop i es)) % m
counted m f sum s es i e h at one is =
    let rest = total f (drop (i + 1) es) in
    ap (λ n. (n + rest) % m) is ∙ mod-add-mod (sum + e.1) m rest ∙ ap (λ n. n % m) (omega (arith, ap (λ n. e.1 * n) one)) ∙
    ap (λ xs. (sum + total f xs) % m) (sym (begins es i e h at))

pub not_counted : (m : ℕ) (f : ℕ → ℕ) (sum s : ℕ) (es : Sum) (i : ℕ) (e : Entry) → i < length es → e ≡ get_or es i e → 0 ≡ f e.0 → s ≡ sum →
    (s + total f (drop (i + 1) es)) % m ≡ (sum + total f (drop i es)) % m
not_counted m f sum s es i e h at none is =
    let rest = total f (drop (i + 1) es) in
    ap (λ n. n % m) (omega (arith, is, ap (λ n. e.1 * n) none)) ∙ ap (λ xs. (sum + total f xs) % m) (sym (begins es i e h at))
