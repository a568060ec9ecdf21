-- What is hashed of a monomial. These words serve private clauses.
use Rattle.std.specs.Prelude.{ℕ, ◌+◌, ◌*◌, ◌%◌, ◌^◌, List}
use Rattle.std.specs.List.{fold}

-- the variables folded to one number, modulo 2^64
abbrev pub folded : List ℕ → ℕ
folded variables = fold (λ n v. ((n * 11400714819323198485) % 2 ^ 64 + v) % 2 ^ 64) 0 variables
