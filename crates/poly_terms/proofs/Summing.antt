-- What one more product adds to coefficients by number.
use Rattle.std.proofs.Common.{◌≡◌, ℕ, ◌+◌, ◌*◌, ◌%◌, ◌<◌, List, [], ◌∷◌, get_or, length, refl, ap, ap₂, ◌∙◌, arith}
use Rattle.graph_core.specs.Graph.Assignments.{Assignment}
use Rattle.algebra_core.specs.Polynomials.{product}
use Rattle.poly_terms.specs.Indexed.{terms_from}
use Rattle.poly_terms.specs.Laws.{all_in_grown, grows_itself}
use Rattle.poly_terms.specs.Monomials.{Grows, Stands}
use Rattle.poly_terms.specs.PolySums.{Gains, IsAdded}
use Rattle.poly_terms.proofs.Adding.{adds_none, adds_on, adds_same, total_grown}
use Rattle.poly_terms.proofs.Sparse.{all_terms, each_term}

pub gains_none : (m : ℕ) (ms : List (List ℕ)) (cs : List ℕ) (n : Assignment → ℕ) → ((σ : Assignment) → n σ ≡ 0) → Gains m ms ms cs cs n
gains_none m ms cs n none = record { adds = adds_none m ms ms (terms_from 0 cs) (terms_from 0 cs) n (grows_itself ms) refl none; below = λ h. h }

-- one term, whose monomial the table has now
pub gains_one : (m : ℕ) (old new : List (List ℕ)) (cs cs' : List ℕ) (n c : ℕ) (key : List ℕ) → Grows old new → Stands new n key → IsAdded m cs cs' ((n, c) ∷ []) → Gains m old new cs cs' (λ σ. c * product σ key)
gains_one m old new cs cs' n c key g s added = record {
  adds = record {
    numbers = λ h. all_terms (λ e. e.0 < length new) cs' (added.within (length new) (s.in_table, tt) (each_term (λ e. e.0 < length new) cs (all_in_grown old new (terms_from 0 cs) g h)));
    sums = λ h σ.
        let f : ℕ → ℕ = λ k. product σ (get_or new k []) in
        added.sums f ∙ ap₂ (λ a vs. (a + (c * product σ vs + 0)) % m) (total_grown old new (terms_from 0 cs) σ g h) s.monomial ∙ ap (λ k. k % m) (omega arith);
  };
  below = added.below;
}

-- another number modulo m
pub gains_same : (m : ℕ) (old new : List (List ℕ)) (cs cs' : List ℕ) (n k : Assignment → ℕ) → Gains m old new cs cs' n → ((σ : Assignment) → n σ % m ≡ k σ % m) → Gains m old new cs cs' k
gains_same m old new cs cs' n k g same = record { adds = adds_same m old new (terms_from 0 cs) (terms_from 0 cs') n k g.adds same; below = g.below }

-- one step after the other
pub gains_on : (m : ℕ) (a b c : List (List ℕ)) (xs ys zs : List ℕ) (n k s : Assignment → ℕ) → Gains m a b xs ys n → Gains m b c ys zs k → ((σ : Assignment) → n σ + k σ ≡ s σ) → Gains m a c xs zs s
gains_on m a b c xs ys zs n k s p q both = record {
  adds = adds_on m a b c (terms_from 0 xs) (terms_from 0 ys) (terms_from 0 zs) n k s p.adds q.adds both;
  below = λ h. q.below (p.below h);
}
