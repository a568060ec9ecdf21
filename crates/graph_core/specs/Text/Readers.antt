-- Readers that are put together from readers: what each takes from the front of a text, and what it leaves.
use Rattle.std.specs.Prelude.{ℕ, zero, suc, Bool, List, [], ◌∷◌, length, if◌then◌else◌}
use Rattle.std.specs.declared.option.Option.{Option}
use Rattle.std.specs.declared.option.Option.TheVariants.{None, Some}
use Rattle.graph_core.specs.Text.Numerals.{◌>>=◌, front_at}

-- A reader gives a value and the bytes after it, or nothing.
abbrev pub Reader : Type 0 → Type 0
Reader A = List ℕ → Option (A × List ℕ)

-- what is read, changed
abbrev pub map_at : {A B : Type 0} → (A → B) → Reader A → Reader B
map_at f item bytes = item bytes >>= λ x. Some (f x.0, x.1)

-- a value with a text before it
abbrev pub behind_at : {A : Type 0} → List ℕ → Reader A → Reader A
behind_at text item bytes = front_at text bytes >>= item

-- a value with a text after it
abbrev pub ended_at : {A : Type 0} → Reader A → List ℕ → Reader A
ended_at item text bytes = item bytes >>= λ x. front_at text x.1 >>= λ rest. Some (x.0, rest)

-- one value after another
abbrev pub then_at : {A B : Type 0} → Reader A → Reader B → Reader (A × B)
then_at one two bytes = one bytes >>= λ x. two x.1 >>= λ y. Some ((x.0, y.0), y.1)

-- a text that says a value
abbrev pub text_at : {A : Type 0} → List ℕ → A → Reader A
text_at text x bytes = front_at text bytes >>= λ rest. Some (x, rest)

-- a value, and then one that depends on it
abbrev pub bind_at : {A B : Type 0} → Reader A → (A → Reader B) → Reader B
bind_at one two bytes = one bytes >>= λ x. two x.0 x.1

-- one reader or another, by the first byte
abbrev pub choose_at : {A : Type 0} → (ℕ → Bool) → Reader A → Reader A → Reader A
choose_at test one two [] = None
choose_at test one two (b ∷ bytes) = if test b then one (b ∷ bytes) else two (b ∷ bytes)

-- an item before those that were read after it
abbrev pub put_before : {A : Type 0} → A → Option (List A × List ℕ) → Option (List A × List ℕ)
put_before x None = None
put_before x (Some xs) = Some (x ∷ xs.0, xs.1)

-- items, as long as one begins at the first byte, and at most so many
abbrev pub many_in : {A : Type 0} → ℕ → (ℕ → Bool) → Reader A → Reader (List A)
many_in zero begins item bytes = Some ([], bytes)
many_in (suc most) begins item [] = Some ([], [])
many_in (suc most) begins item (b ∷ bytes) = if begins b
    then (item (b ∷ bytes) >>= λ x. put_before x.0 (many_in most begins item x.1))
    else Some ([], b ∷ bytes)

-- Items, as long as one begins at the first byte; there are no more of them than bytes.
unfoldable pub many_at : {A : Type 0} → (ℕ → Bool) → Reader A → Reader (List A)
many_at begins item bytes = many_in (length bytes) begins item bytes
