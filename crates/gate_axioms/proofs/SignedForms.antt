-- What the literals of a signed operand add to a form.
use Rattle.std.proofs.Common.{◌≡◌, ℕ, suc, ◌+◌, ◌-◌, ◌*◌, ◌%◌, ◌^◌, ◌<◌, List, [], ◌∷◌, length, get_or, refl, sym, ap, ◌∙◌, arith}
use Rattle.std.proofs.Math.Nat.{add-mul-mod_self_left, mod-mod, zero-mod}
use Rattle.std.proofs.lemmas.Nat.{pow_pos}
use Rattle.graph_core.specs.declared.literal.Lit.{Lit}
use Rattle.graph_core.specs.Graph.Assignments.{Assignment, bit, literal, word}
use Rattle.graph_core.specs.Graph.Operands.{signed_word}
use Rattle.algebra_core.specs.Polynomials.{Polynomial}
use Rattle.graph_core.proofs.OfGraphs.CallerLemmas.{product_same, signed_is, sum_same, top}
use Rattle.gate_axioms.specs.Form.{AddsNumber}
use Rattle.gate_axioms.proofs.Adding.{adds_on}

top_is : (σ : Assignment) (ls : List Lit) (d : Lit) → 0 < length ls → top σ ls ≡ bit (literal σ (get_or ls (length ls - 1) d))
top_is σ [] d some = absurd (omega arith)
top_is σ (l ∷ []) d some = refl
top_is σ (l ∷ k ∷ ls) d some =
    let there : length (k ∷ ls) - 1 ≡ length ls = omega arith in
    let here : suc (length ls) ≡ length (l ∷ k ∷ ls) - 1 = omega arith in
    top_is σ (k ∷ ls) d (omega arith) ∙ ap (λ i. bit (literal σ (get_or (k ∷ ls) i d))) there ∙ ap (λ i. bit (literal σ (get_or (l ∷ k ∷ ls) i d))) here

-- f times w, and minus f * p times t, where w is p * t more than s
signed_part : (m f p o t s w x : ℕ) → (o + f * p) % m ≡ 0 → s + p * t ≡ w + m * x → (f * w + o * t) % m ≡ (f * s) % m
signed_part m f p o t s w x opposite is =
    let moved : (f * w + o * t) + m * (f * x) ≡ f * s + (o + f * p) * t = spread f w o t m x ∙ ap (λ z. f * z + o * t) (sym is) ∙ gathered f s p t o in
    let none : ((o + f * p) * t) % m ≡ (0 * t) % m = product_same m (o + f * p) 0 t t (opposite ∙ sym (zero-mod m)) refl in
    sym (add-mul-mod_self_left (f * w + o * t) m (f * x)) ∙ ap (λ z. z % m) moved ∙ sum_same m (f * s) (f * s) ((o + f * p) * t) (0 * t) refl none ∙ ap (λ z. z % m) (omega arith)
  where
    spread : (f w o t m x : ℕ) → (f * w + o * t) + m * (f * x) ≡ f * (w + m * x) + o * t
    spread f w o t m x = omega arith

    gathered : (f s p t o : ℕ) → f * (s + p * t) + o * t ≡ f * s + (o + f * p) * t
    gathered f s p t o = omega arith

signed_at : (w f o : ℕ) (σ : Assignment) (ls : List Lit) (d : Lit) → 0 < length ls → (o + f * 2 ^ length ls) % 2 ^ w ≡ 0 →
    (f * word σ ls + o * bit (literal σ (get_or ls (length ls - 1) d))) % 2 ^ w ≡ (f * signed_word (2 ^ w) σ ls) % 2 ^ w
signed_at w f o σ [] d some opposite = absurd (omega arith)
signed_at w f o σ (l ∷ ls) d some opposite =
    ap (λ t. (f * word σ (l ∷ ls) + o * t) % 2 ^ w) (sym (top_is σ (l ∷ ls) d some)) ∙
    signed_part (2 ^ w) f (2 ^ suc (length ls)) o (top σ (l ∷ ls)) (signed_word (2 ^ w) σ (l ∷ ls)) (word σ (l ∷ ls)) (2 ^ length ls * top σ (l ∷ ls)) opposite (signed_is (2 ^ w) σ l ls (pow_pos w))

-- the word, and minus 2 ^ n times the last literal
pub signed_adds : (w f s o : ℕ) (ls : List Lit) (d : Lit) (old mid new : Polynomial) → 0 < length ls → s ≡ (f * 2 ^ length ls) % 2 ^ w → (o + s) % 2 ^ w ≡ 0 →
    AddsNumber w old mid (λ σ. f * word σ ls) → AddsNumber w mid new (λ σ. o * bit (literal σ (get_or ls (length ls - 1) d))) → AddsNumber w old new (λ σ. f * signed_word (2 ^ w) σ ls)
signed_adds w f s o ls d old mid new some is opposite whole top' =
    let none : (o + f * 2 ^ length ls) % 2 ^ w ≡ 0 =
    sum_same (2 ^ w) o o (f * 2 ^ length ls) s refl (sym (ap (λ z. z % 2 ^ w) is ∙ mod-mod (f * 2 ^ length ls) (2 ^ w))) ∙ opposite in
    adds_on w old mid new _ _ _ whole top' (λ σ. signed_at w f o σ ls d some none)
