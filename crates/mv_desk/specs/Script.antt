-- Which calls of a desk in memory fail, and how its reads and writes are cut.
use Rattle.std.specs.Prelude.{ℕ, ◌+◌, ◌-◌, ◌^◌, ◌==◌, Bool, List, [], ◌∷◌, max, min}
use Rattle.std.specs.List.{list_any}

pub record Plan : Type 0 where
  -- the lengths of the reads to come, and of the writes
  pub reads : List ℕ
  pub writes : List ℕ
  -- the numbers of the calls that fail
  pub fails : List ℕ
  -- how many calls there were
  pub calls : ℕ

-- the number of the next call, from 1; it stands still at its type's end
abbrev pub next_call : Plan → ℕ
next_call plan = min (plan.calls + 1) (2 ^ 64 - 1)

-- the next call is one that fails
abbrev pub is_next_failing : Plan → Bool
is_next_failing plan = list_any (λ call. call == next_call plan) plan.fails

abbrev pub after_call : Plan → Plan
after_call plan = record plan { calls = next_call plan }

-- how much the next call moves at most: a length of 0 bytes counts as one byte, and after the last length nothing is cut
abbrev pub next : List ℕ → ℕ
next [] = 2 ^ 64 - 1
next (len ∷ lengths) = max len 1

abbrev pub later : List ℕ → List ℕ
later [] = []
later (len ∷ lengths) = lengths

-- how much a read gives of what is left
abbrev pub read_len : Plan → ℕ → ℕ → ℕ
read_len plan room left = min (next plan.reads) (min room left)

-- after a read that gave bytes or met the end
abbrev pub after_read : Plan → Plan
after_read plan = record plan { reads = later plan.reads; calls = next_call plan }

-- how much a write takes of a piece
abbrev pub write_len : Plan → ℕ → ℕ
write_len plan len = min (next plan.writes) len

-- after a write that took bytes
abbrev pub after_write : Plan → Plan
after_write plan = record plan { writes = later plan.writes; calls = next_call plan }
