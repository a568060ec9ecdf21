use Rattle.std.proofs.Common.{◌≡◌, ◌<◌, ◌+◌, ℕ, [], get_or, length}
use Rattle.poly_terms.specs.Chains.{chain_of}
use Rattle.poly_terms.proofs.chains.find_in.Given as goal

abbrev pub invariant-loop-link : goal.invariant-loop-link
invariant-loop-link l = record {
  at : (n : ℕ) → l.link ≡ n + 1 → (n < length l.links) × (chain_of (length l.heads) (get_or l.monomials n []) ≡ chain_of (length l.heads) l.monomial);
  above : (n : ℕ) → n < length l.monomials → get_or l.monomials n [] ≡ l.monomial → n < l.link;
}

abbrev pub decreases-loop-link : goal.decreases-loop-link
decreases-loop-link l = l.link
