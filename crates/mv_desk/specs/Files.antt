-- Files in memory: the name and the bytes of each. The first file of a name counts.
use Rattle.std.specs.Prelude.{◌≡◌, ◌<◌, ℕ, Bool, List, [], length, map, find, get_or, Option, option_map, string_bytes}
use Rattle.std.specs.List.{position_or_len}
use Rattle.std.specs.Str.{bytes_eq}
use Rattle.std.specs.declared.alloc.Global.{Global}
use Rattle.std.specs.declared.string.String.{String}
use Rattle.std.specs.declared.vec.Vec.{Vec}

-- a file's name and its bytes
abbrev pub File : Type 0
File = List ℕ × List ℕ

-- the file that a text and a vector make
abbrev pub file_of : String Global × Vec ℕ Global → File
file_of pair = (string_bytes pair.0, pair.1.items)

abbrev pub files_from : List (String Global × Vec ℕ Global) → List File
files_from pairs = map file_of pairs

abbrev pub is_named : List ℕ → File → Bool
is_named name file = bytes_eq file.0 name

-- the bytes of the first file with this name
abbrev pub held_at : List File → List ℕ → Option (List ℕ)
held_at files name = option_map (λ file. file.1) (find (is_named name) files)

abbrev pub file_at : List File → ℕ → File
file_at files at = get_or files at ([], [])

-- there is such a file, and none before it has its name
pub record IsFirst (files : List File) (at : ℕ) : Type 0 where
  pub within : at < length files
  pub first : at ≡ position_or_len (is_named (file_at files at).0) files
