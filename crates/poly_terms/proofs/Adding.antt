-- Entries put after others, in a table that grows.
use Rattle.std.proofs.Common.{◌≡◌, ◌<◌, ℕ, ◌+◌, ◌*◌, ◌%◌, List, [], ◌∷◌, ◌++◌, length, get_or, take, refl, sym, ap, ap₂, subst, ◌∙◌, arith}
use Rattle.std.proofs.lemmas.List.{take_more}
use Rattle.std.proofs.lemmas.List.Elements.{All-from_recursion}
use Rattle.std.specs.List.{AllByRecursion}
use Rattle.graph_core.specs.Graph.Assignments.{Assignment}
use Rattle.algebra_core.specs.Polynomials.{product}
use Rattle.poly_terms.specs.Entries.{Sum, Entry, total}
use Rattle.poly_terms.specs.Monomials.{Adds, AreIn, Grows, Stands, total_in}
use Rattle.poly_terms.specs.Laws.{all_in_grown, stands_in_grown}
use Rattle.poly_terms.proofs.Gathering.{all_joined, total-append}
use Rattle.poly_terms.proofs.Residues.{plus_same}

-- old entries keep their total
pub total_grown : (old new : List (List ℕ)) (es : Sum) (σ : Assignment) → Grows old new → AreIn old es → total_in new σ es ≡ total_in old σ es
total_grown old new [] σ g h = refl
total_grown old new (e ∷ es) σ g h = ap₂ (λ vs n. e.1 * product σ vs + n) (stands_in_grown old new e.0 g h.0) (total_grown old new es σ g h.1)

-- one entry more
pub adds_one : (m : ℕ) (old new : List (List ℕ)) (before after : Sum) (n c : ℕ) (key : List ℕ) → Grows old new → Stands new n key →
    after ≡ before ++ (n, c) ∷ [] → Adds m old new before after (λ σ. c * product σ key)
adds_one m old new before after n c key g s is = record {
  numbers = λ h. subst (AreIn new) (sym is) (all_joined (λ e. e.0 < length new) before ((n, c) ∷ []) (all_in_grown old new before g h) (s.in_table, tt));
  sums = λ h σ.
      ap (λ k. k % m)
      (ap (total_in new σ) is ∙ total-append (λ k. product σ (get_or new k [])) before ((n, c) ∷ []) ∙
      ap₂ (λ a vs. a + (c * product σ vs + 0)) (total_grown old new before σ g h) s.monomial ∙ omega arith);
}

-- none
pub adds_none : (m : ℕ) (old new : List (List ℕ)) (before after : Sum) (n : Assignment → ℕ) → Grows old new → after ≡ before → ((σ : Assignment) → n σ ≡ 0) →
    Adds m old new before after n
adds_none m old new before after n g is none = record {
  numbers = λ h. subst (AreIn new) (sym is) (all_in_grown old new before g h);
  sums = λ h σ. ap (λ k. k % m) (ap (total_in new σ) is ∙ total_grown old new before σ g h ∙ omega (arith, none σ));
}

-- another number modulo m
pub adds_same : (m : ℕ) (old new : List (List ℕ)) (before after : Sum) (n k : Assignment → ℕ) → Adds m old new before after n → ((σ : Assignment) → n σ % m ≡ k σ % m) →
    Adds m old new before after k
adds_same m old new before after n k a same = record { numbers = a.numbers; sums = λ h σ. a.sums h σ ∙ plus_same m (total_in old σ before) (n σ) (k σ) (same σ) }

-- one step after the other
pub adds_on : (m : ℕ) (a b c : List (List ℕ)) (xs ys zs : Sum) (n k s : Assignment → ℕ) → Adds m a b xs ys n → Adds m b c ys zs k → ((σ : Assignment) → n σ + k σ ≡ s σ) →
    Adds m a c xs zs s
adds_on m a b c xs ys zs n k s p q both = record {
  numbers = λ h. q.numbers (p.numbers h);
  sums = λ h σ.
      q.sums (p.numbers h) σ ∙ ap (λ z. z % m) (let e : total_in b σ ys + k σ ≡ k σ + total_in b σ ys = omega arith in e) ∙
      plus_same m (k σ) (total_in b σ ys) (total_in a σ xs + n σ) (p.sums h σ) ∙ ap (λ z. z % m) (omega (arith, both σ));
}

pub total-take : (f : ℕ → ℕ) (es : Sum) (i : ℕ) (e : Entry) → i < length es → e ≡ get_or es i e → total f (take (i + 1) es) ≡ total f (take i es) + e.1 * f e.0
total-take f es i e h at =
    ap (total f) (take_more es i e h) ∙ total-append f (take i es) (get_or es i e ∷ []) ∙ ap (λ x. total f (take i es) + (x.1 * f x.0 + 0)) (sym at) ∙ omega arith

-- what holds of all holds of one
pub all_at : {X : Type 0} (P : X → Type 0) (xs : List X) (i : ℕ) (x : X) → i < length xs → x ≡ get_or xs i x → AllByRecursion P xs → P x
all_at P xs i x h at all = subst P (sym at) (All-from_recursion P xs all i x h)

pub spread : (a t u : ℕ) → a * t + a * u ≡ a * (t + u)
spread a t u = omega arith

pub turned : (l t u : ℕ) → l * t + u * l ≡ l * t + l * u
turned l t u = omega arith

-- the step of a loop that multiplies each entry
pub one_more_product : (old mid : List (List ℕ)) (a : ℕ) (σ : Assignment) (es : Sum) (i : ℕ) (e : Entry) → Grows old mid → AreIn old es → i < length es → e ≡ get_or es i e →
    a * total_in old σ (take i es) + a * (e.1 * product σ (get_or mid e.0 [])) ≡ a * total_in old σ (take (i + 1) es)
one_more_product old mid a σ es i e g h in_list at =
    ap (λ vs. a * total_in old σ (take i es) + a * (e.1 * product σ vs)) (stands_in_grown old mid e.0 g (all_at (λ x. x.0 < length old) es i e in_list at h)) ∙
    spread a (total_in old σ (take i es)) (e.1 * product σ (get_or old e.0 [])) ∙ ap (λ n. a * n) (sym (total-take (λ k. product σ (get_or old k [])) es i e in_list at))

-- the step of a loop over the other factor's entries
pub one_more_row : (old mid : List (List ℕ)) (σ : Assignment) (left right : Sum) (i : ℕ) (e : Entry) → Grows old mid → AreIn old left → AreIn old right → i < length right → e ≡ get_or right i e →
    total_in old σ left * total_in old σ (take i right) + e.1 * product σ (get_or mid e.0 []) * total_in mid σ left ≡ total_in old σ left * total_in old σ (take (i + 1) right)
one_more_row old mid σ left right i e g p q in_list at =
    let l = total_in old σ left in
    let t = total_in old σ (take i right) in
    ap (λ n. l * t + e.1 * product σ (get_or mid e.0 []) * n) (total_grown old mid left σ g p) ∙ turned l t (e.1 * product σ (get_or mid e.0 [])) ∙
    one_more_product old mid l σ right i e g q in_list at
