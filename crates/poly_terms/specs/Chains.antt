-- Chains of the numbers of monomials, by what is hashed of these. These words serve private clauses.
use Rattle.std.specs.Prelude.{◌≡◌, ◌≢◌, ℕ, ◌+◌, ◌-◌, ◌<◌, ◌≤◌, List, [], ◌∷◌, ◌++◌, length, get_or, set, bit_and}
use Rattle.poly_terms.specs.Hashed.{folded}

-- the chain of a monomial, among so many
unfoldable pub chain_of : ℕ → List ℕ → ℕ
chain_of count m = bit_and (folded m) (count - 1)

-- no number is this monomial's
abbrev pub IsAbsent : List (List ℕ) → List ℕ → Type 0
IsAbsent ms m = (n : ℕ) → n < length ms → get_or ms n [] ≢ m

-- The first monomials, as many as there are links, in so many chains: a head is one more than the last number of its
-- chain, a link one more than the number before it in its chain, and either is 0 where there is none.
pub record AreLinked (count : ℕ) (ms : List (List ℕ)) (heads links : List ℕ) : Type 0 where
  pub head : (c n : ℕ) → get_or heads c 0 ≡ n + 1 → (n < length links) × (chain_of count (get_or ms n []) ≡ c)
  pub link : (i n : ℕ) → i < length links → get_or links i 0 ≡ n + 1 → (n < i) × (chain_of count (get_or ms n []) ≡ chain_of count (get_or ms i []))
  pub below_head : (n : ℕ) → n < length links → n < get_or heads (chain_of count (get_or ms n [])) 0
  pub below_link : (i n : ℕ) → i < length links → n < i → chain_of count (get_or ms n []) ≡ chain_of count (get_or ms i []) → n < get_or links i 0

-- All monomials are linked, in no fewer chains than there are of them.
pub record IsChained (ms : List (List ℕ)) (heads links : List ℕ) : Type 0 where
  pub wide : length ms ≤ length heads
  pub long : length links ≡ length ms
  pub linked : AreLinked (length heads) ms heads links

-- One more number, at the head of a chain.
pub record Hangs (c : ℕ) (old_heads old_links new_heads new_links : List ℕ) : Type 0 where
  pub heads : new_heads ≡ set old_heads c (length old_links + 1)
  pub links : new_links ≡ old_links ++ get_or old_heads c 0 ∷ []
