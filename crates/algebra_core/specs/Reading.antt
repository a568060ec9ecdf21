-- Reading an algebra certificate from the front.
use Rattle.std.specs.Prelude.{◌≡◌, ℕ, Bool, true, false, ◌||◌, List, [], ◌∷◌, ◌++◌, codes, ◌==◌, ◌↔◌, if◌then◌else◌, nat_lt}
use Rattle.std.specs.declared.option.Option.{Option}
use Rattle.std.specs.declared.option.Option.TheVariants.{None, Some}
use Rattle.graph_core.specs.Text.{newline}
use Rattle.graph_core.specs.Text.Numerals.{number_at, is_digit}
use Rattle.graph_core.specs.Text.Readers.{Reader, map_at, behind_at, ended_at, then_at, text_at, bind_at, choose_at, many_at}
use Rattle.algebra_core.specs.Polynomials.{Term, Polynomial}
use Rattle.algebra_core.specs.AlgebraLines.{Line, Sum, Product, Combination, Import, Delete, Part}
use Rattle.algebra_core.specs.Text.{IsLineText, IsCloseText, IsAlgebraText, algebra_header}

abbrev pub is_star : ℕ → Bool
is_star b = b == 42

abbrev pub is_minus : ℕ → Bool
is_minus b = b == 45

abbrev pub is_sign : ℕ → Bool
is_sign b = b == 43 || b == 45

abbrev pub is_space : ℕ → Bool
is_space b = b == 32

-- the variables after stars
abbrev pub factors_at : Reader (List ℕ)
factors_at = many_at is_star (behind_at (codes "*x") (number_at 10))

-- a term with a coefficient, a term without one, and either of them
abbrev pub coefficient_at : Bool → Reader Term
coefficient_at negative = map_at (λ x. record { negative = negative; coefficient = x.0; variables = x.1 }) (then_at (number_at 39) factors_at)

abbrev pub product_at : Bool → Reader Term
product_at negative = map_at (λ x. record { negative = negative; coefficient = 1; variables = x.0 ∷ x.1 })
    (then_at (behind_at (codes "x") (number_at 10)) factors_at)

abbrev pub term_at : Bool → Reader Term
term_at negative = choose_at is_digit (coefficient_at negative) (product_at negative)

-- the first term, which has no plus
abbrev pub first_term_at : Reader Term
first_term_at = choose_at is_minus (behind_at (codes "-") (term_at true)) (term_at false)

-- a term with its sign
abbrev pub signed_term_at : Reader Term
signed_term_at = choose_at is_minus (behind_at (codes "-") (term_at true)) (behind_at (codes "+") (term_at false))

abbrev pub poly_at : Reader Polynomial
poly_at = map_at (λ x. x.0 ∷ x.1) (then_at first_term_at (many_at is_sign signed_term_at))

-- a line times a polynomial, and parts with a plus between each two
abbrev pub part_at : Reader Part
part_at = map_at (λ x. record { id = x.0; factor = x.1 }) (then_at (ended_at (number_at 15) (codes " * (")) (ended_at poly_at (codes ")")))

abbrev pub parts_at : Reader (List Part)
parts_at = map_at (λ x. x.0 ∷ x.1) (then_at part_at (many_at is_space (behind_at (codes " + ") part_at)))

-- what stands after the new id, and a space, in a line of each kind
abbrev pub sum_at : ℕ → Reader Line
sum_at id = map_at (λ x. Sum id x.0 x.1.0 x.1.1)
    (behind_at (codes "+ ") (then_at (ended_at (number_at 15) (codes ", ")) (then_at (ended_at (number_at 15) (codes ", ")) (ended_at poly_at (codes ";")))))

abbrev pub multiple_at : ℕ → Reader Line
multiple_at id = map_at (λ x. Product id x.0 x.1.0 x.1.1)
    (behind_at (codes "* ") (then_at (ended_at (number_at 15) (codes ", ")) (then_at (ended_at poly_at (codes ", ")) (ended_at poly_at (codes ";")))))

abbrev pub combination_at : ℕ → Reader Line
combination_at id = map_at (λ x. Combination id x.0 x.1) (behind_at (codes "% ") (then_at (ended_at parts_at (codes ", ")) (ended_at poly_at (codes ";"))))

abbrev pub import_at : ℕ → Reader Line
import_at id = map_at (λ x. Import id x.0 x.1) (behind_at (codes "c ") (then_at (ended_at (number_at 15) (codes ", ")) (ended_at poly_at (codes ";"))))

abbrev pub drop_at : ℕ → Reader Line
drop_at id = text_at (codes "d;") (Delete id)

-- what only versions above 1 have
abbrev pub second_at : {A : Type 0} → ℕ → Reader A → Reader A
second_at version item bytes = if nat_lt 1 version then item bytes else None

-- a line, by the byte after its id
unfoldable pub algebra_line_at : ℕ → Reader Line
algebra_line_at version = bind_at (ended_at (number_at 15) (codes " ")) (λ id.
    choose_at (λ b. b == 43) (sum_at id) (choose_at (λ b. b == 42) (multiple_at id) (choose_at (λ b. b == 37) (combination_at id)
    (choose_at (λ b. b == 99) (second_at version (import_at id)) (drop_at id)))))

-- the closing line
abbrev pub close_at : Reader ℕ
close_at = behind_at (codes "q ") (ended_at (number_at 15) (codes ";"))

-- the end of the text
abbrev pub at_end : {A : Type 0} → Option (A × List ℕ) → Option A
at_end None = None
at_end (Some (x, [])) = Some x
at_end (Some (x, b ∷ bytes)) = None

-- the lines of a whole text, and the id that it closes with
abbrev pub algebra_at : ℕ → List ℕ → Option (List Line × ℕ)
algebra_at version bytes = at_end (behind_at (algebra_header version)
    (then_at (many_at is_digit (ended_at (algebra_line_at version) (newline ∷ []))) (ended_at close_at (newline ∷ []))) bytes)

-- ---- the laws

-- Reading a line of an algebra certificate gives the line whose text it takes, and nothing else does.
abbrev pub AlgebraLineIsRead : Type 0
AlgebraLineIsRead = (version : ℕ) (bytes : List ℕ) (x : Line) (rest : List ℕ) → (algebra_line_at version bytes ≡ Some (x, rest)) ↔
    ((line : List ℕ) × IsLineText version line x × (bytes ≡ line ++ rest))

abbrev pub CloseIsRead : Type 0
CloseIsRead = (bytes : List ℕ) (id : ℕ) (rest : List ℕ) → (close_at bytes ≡ Some (id, rest)) ↔ ((line : List ℕ) × IsCloseText line id × (bytes ≡ line ++ rest))

-- Reading an algebra certificate gives its lines and its closing id, and nothing else does.
abbrev pub AlgebraIsRead : Type 0
AlgebraIsRead = (version : ℕ) (bytes : List ℕ) (lines : List Line) (closing : ℕ) →
    (algebra_at version bytes ≡ Some (lines, closing)) ↔ IsAlgebraText version bytes lines closing
