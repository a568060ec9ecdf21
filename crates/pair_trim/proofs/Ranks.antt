-- The numbers of clauses that are named have ranks.
use Rattle.std.specs.Prelude.{ℕ, ◌<◌, List, length, slice_index_or}
use Rattle.std.specs.List.{All}
use Rattle.std.proofs.Common.{arith}
use Rattle.clause_core.specs.Clause.{Clause}
use Rattle.clause_core.specs.ClauseLines.{ClauseLine}
use Rattle.miter_encoder.specs.declared.goal.Goal.{Goal}
use Rattle.pair_trim.specs.Marking.{IsKeptOf}
use Rattle.pair_trim.proofs.Renumbering.{marked_low}

-- what `renumber` asks for
pub named_have_ranks : (goals : List Goal) (more : List ℕ) (clauses : List Clause) (uses : List (List ℕ)) (lines : List ClauseLine) (kept_uses : List (List ℕ)) (ranks : List ℕ) →
    IsKeptOf goals more clauses uses lines kept_uses ranks → All (λ n. n < length ranks) more
named_have_ranks goals more clauses uses lines kept_uses ranks k i d low =
    let n = slice_index_or more i d in
    let most = marked_low k.marks n (k.named i d low) in
    let many = k.ranks_are.many in
    omega arith
