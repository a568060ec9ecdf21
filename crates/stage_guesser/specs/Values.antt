-- The values of a literal, pattern by pattern.
use Rattle.std.specs.Prelude.{ℕ, ◌/◌, ◌%◌, slice_index}
use Rattle.std.specs.Int.{bit_at}
use Rattle.stage_guesser.specs.declared.signature.Signature.{Signature}

-- the value on a pattern, of which a word has 64
abbrev pub pattern_value : Signature → ℕ → ℕ
pattern_value s p = bit_at (slice_index s.words (p / 64)) (p % 64)
