-- The lines of an algebra certificate that are recorded, and what they name. All of them introduce ids, in rising order: deletions
-- aren't recorded.
use Rattle.std.specs.Prelude.{◌≡◌, ◌<◌, ℕ, List, [], ◌∷◌, length, map, slice_index}
use Rattle.std.specs.List.{All, filter_map}
use Rattle.algebra_core.specs.AlgebraLines.{Line}
use Rattle.algebra_core.specs.Likeness.{AreAlike}
use Rattle.poly_terms.specs.Tables.{Table}
use Rattle.poly_text.specs.Lines.{line_in}
use Rattle.poly_text.specs.declared.line.PacLine.{PacLine}
use Rattle.poly_text.specs.declared.line.PacLine.TheVariants.{Sum, Product, Combination, Import, Drop, Close}

-- the id that a line introduces; deletions and closing lines have none
abbrev pub id_in : PacLine → ℕ
id_in (Sum id i j poly) = id
id_in (Product id i factor poly) = id
id_in (Combination id parts poly) = id
id_in (Import id number poly) = id
id_in (Drop id) = 0
id_in (Close id) = 0

-- the ids of the lines that a line is made of
abbrev pub operands_in : PacLine → List ℕ
operands_in (Sum id i j poly) = i ∷ j ∷ []
operands_in (Product id i factor poly) = i ∷ []
operands_in (Combination id parts poly) = map (λ part. part.0) parts
operands_in (Import id number poly) = []
operands_in (Drop id) = []
operands_in (Close id) = []

abbrev pub ids_in : List PacLine → List ℕ
ids_in lines = map id_in lines

abbrev pub AreRisingIds : List ℕ → Type 0
AreRisingIds ids = (i j : ℕ) → i < j → j < length ids → slice_index ids i < slice_index ids j

-- each line is made of lines with lesser ids
abbrev pub AreMadeOfEarlier : List PacLine → Type 0
AreMadeOfEarlier lines = All (λ x. All (λ o. o < id_in x) (operands_in x)) lines

-- The line introduces an id: it is no deletion and no closing line.
abbrev pub HasNewId : PacLine → Type 0
HasNewId (Sum id i j poly) = Unit {0}
HasNewId (Product id i factor poly) = Unit {0}
HasNewId (Combination id parts poly) = Unit {0}
HasNewId (Import id number poly) = Unit {0}
HasNewId (Drop id) = ⊥
HasNewId (Close id) = ⊥

-- lines in the words of the definitions
abbrev pub lines_in : Table → List PacLine → List Line
lines_in t lines = filter_map (line_in t) lines

-- lines that are alike, one by one
abbrev pub AreAllAlike : ℕ → List Line → List Line → Type 0
AreAllAlike m [] others = others ≡ []
AreAllAlike m (x ∷ xs) [] = ⊥
AreAllAlike m (x ∷ xs) (y ∷ ys) = AreAlike m x y × AreAllAlike m xs ys
