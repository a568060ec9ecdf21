-- The text of an algebra certificate.
use Rattle.std.specs.Prelude.{◌≡◌, ℕ, ◌^◌, ◌<◌, ◌≤◌, ◌⊎◌, Bool, true, false, List, [], ◌∷◌, ◌++◌, codes, if◌then◌else◌, ◌==◌}
use Rattle.std.specs.List.{All}
use Rattle.graph_core.specs.Text.{newline, IsNumeral}
use Rattle.algebra_core.specs.Polynomials.{Term, Polynomial}
use Rattle.graph_core.specs.Graph.Operands.{Sides}
use Rattle.algebra_core.specs.AlgebraLines.{Line, Sum, Product, Combination, Import, Delete, Part, AreLawful, Premises}

-- each variable after a star, as in *x3*x1
abbrev pub AreFactors : List ℕ → List ℕ → Type 0
AreFactors bytes [] = bytes ≡ []
AreFactors bytes (v ∷ vs) = (digits rest : List ℕ) × IsNumeral 10 digits v × AreFactors rest vs × (bytes ≡ codes "*x" ++ digits ++ rest)

-- A term without its sign: a coefficient and factors, or factors alone, of which the first has no star.
abbrev pub IsTerm : List ℕ → Term → Type 0
IsTerm bytes t = ((digits rest : List ℕ) × IsNumeral 39 digits t.coefficient × AreFactors rest t.variables × (bytes ≡ digits ++ rest)) ⊎
    ((t.coefficient ≡ 1) × AreFactors (codes "*" ++ bytes) t.variables)

abbrev pub sign_of : Bool → List ℕ
sign_of true = codes "-"
sign_of false = codes "+"

-- terms, each with its sign
abbrev pub AreTerms : List ℕ → List Term → Type 0
AreTerms bytes [] = bytes ≡ []
AreTerms bytes (t ∷ ts) = (term rest : List ℕ) × IsTerm term t × AreTerms rest ts × (bytes ≡ sign_of t.negative ++ term ++ rest)

-- at least one term; the first has no plus
abbrev pub IsPolynomial : List ℕ → Polynomial → Type 0
IsPolynomial bytes [] = ⊥
IsPolynomial bytes (t ∷ ts) = AreTerms (if t.negative then bytes else codes "+" ++ bytes) (t ∷ ts)

abbrev pub IsPart : List ℕ → Part → Type 0
IsPart bytes part = (id factor : List ℕ) × IsNumeral 15 id part.id × IsPolynomial factor part.factor × (bytes ≡ id ++ codes " * (" ++ factor ++ codes ")")

-- at least one part, with a plus between each two
abbrev pub AreParts : List ℕ → List Part → Type 0
AreParts bytes [] = ⊥
AreParts bytes (part ∷ []) = IsPart bytes part
AreParts bytes (part ∷ next ∷ parts) = (front rest : List ℕ) × IsPart front part × AreParts rest (next ∷ parts) × (bytes ≡ front ++ codes " + " ++ rest)

-- a line of a version, without its line feed; only versions above 1 have imports
abbrev pub IsLineText : ℕ → List ℕ → Line → Type 0
IsLineText version bytes (Sum id i j p) = (new left right poly : List ℕ) × IsNumeral 15 new id × IsNumeral 15 left i ×
    IsNumeral 15 right j × IsPolynomial poly p ×
    (bytes ≡ new ++ codes " + " ++ left ++ codes ", " ++ right ++ codes ", " ++ poly ++ codes ";")
IsLineText version bytes (Product id i q p) = (new left factor poly : List ℕ) × IsNumeral 15 new id × IsNumeral 15 left i ×
    IsPolynomial factor q × IsPolynomial poly p ×
    (bytes ≡ new ++ codes " * " ++ left ++ codes ", " ++ factor ++ codes ", " ++ poly ++ codes ";")
IsLineText version bytes (Combination id parts p) = (new sum poly : List ℕ) × IsNumeral 15 new id × AreParts sum parts × IsPolynomial poly p ×
    (bytes ≡ new ++ codes " % " ++ sum ++ codes ", " ++ poly ++ codes ";")
IsLineText version bytes (Import id number p) = (1 < version) × ((new digits poly : List ℕ) × IsNumeral 15 new id × IsNumeral 15 digits number ×
    IsPolynomial poly p × (bytes ≡ new ++ codes " c " ++ digits ++ codes ", " ++ poly ++ codes ";"))
IsLineText version bytes (Delete id) = (old : List ℕ) × IsNumeral 15 old id × (bytes ≡ old ++ codes " d;")

-- a closing line without its line feed
abbrev pub IsCloseText : List ℕ → ℕ → Type 0
IsCloseText bytes id = (digits : List ℕ) × IsNumeral 15 digits id × (bytes ≡ codes "q " ++ digits ++ codes ";")

-- lines, and the bytes after them
abbrev pub AreLineTexts : ℕ → List ℕ → List Line → List ℕ → Type 0
AreLineTexts version bytes [] after = bytes ≡ after
AreLineTexts version bytes (x ∷ xs) after =
    (line rest : List ℕ) × IsLineText version line x × AreLineTexts version rest xs after × (bytes ≡ line ++ newline ∷ rest)

-- the first line: `pac 1`, `pac 2` or `pac 3`
abbrev pub first_line : ℕ → List ℕ
first_line version = if version == 1 then codes "pac 1" else if version == 2 then codes "pac 2" else codes "pac 3"

abbrev pub algebra_header : ℕ → List ℕ
algebra_header version = first_line version ++ newline ∷ []

-- The whole text: the header, the lines, the closing line, and nothing after it.
abbrev pub IsAlgebraText : ℕ → List ℕ → List Line → ℕ → Type 0
IsAlgebraText version bytes lines closing = (body after id : List ℕ) × IsNumeral 15 id closing × AreLineTexts version body lines after ×
    (after ≡ codes "q " ++ id ++ codes ";" ++ newline ∷ []) × (bytes ≡ first_line version ++ newline ∷ body)

-- An id is from 1 to 2 ^ 48 - 1.
abbrev pub IsId : ℕ → Type 0
IsId id = (0 < id) × (id < 2 ^ 48)

-- Coefficients are below 2 ^ 128, and variables from 1 to the greatest one.
abbrev pub IsInRange : ℕ → Polynomial → Type 0
IsInRange max p = All (λ t. (t.coefficient < 2 ^ 128) × All (λ v. (0 < v) × (v ≤ max)) t.variables) p

abbrev pub IsLineInRange : ℕ → Line → Type 0
IsLineInRange max (Sum id i j p) = IsId id × IsId i × IsId j × IsInRange max p
IsLineInRange max (Product id i q p) = IsId id × IsId i × IsInRange max q × IsInRange max p
IsLineInRange max (Combination id parts p) = IsId id × All (λ part. IsId part.id × IsInRange max part.factor) parts × IsInRange max p
IsLineInRange max (Import id number p) = IsId id × IsId number × IsInRange max p
IsLineInRange max (Delete id) = IsId id

-- An algebra file that proves the specification of the extended graph with these operands.
pub record IsLawfulAlgebraFile (p : Premises) (s : Sides) (bytes : List ℕ) : Type 0 where
  pub lines : List Line
  pub closing : ℕ
  pub text : IsAlgebraText p.version bytes lines closing
  pub in_range : All (IsLineInRange p.extended.max) lines
  pub closing_in_range : IsId closing
  pub lawful : AreLawful p s lines closing
