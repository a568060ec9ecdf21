-- The worked algebra file of the one-bit multiplier, byte by byte: it is lawful, so the multiplier multiplies. The file
-- that closes with the negative of the specification isn't.
use Rattle.std.specs.Prelude.{◌≡◌, ℕ, ◌^◌, ◌<◌, ◌≤◌, List, [], ◌∷◌, ◌++◌, codes}
use Rattle.std.specs.declared.option.Option.TheVariants.{Some}
use Rattle.std.specs.List.{All, AllByRecursion}
use Rattle.std.proofs.Common.{refl, sym, subst, ◌∙◌, arith, inl, inr}
use Rattle.std.proofs.lemmas.Option.{same_Some}
use Rattle.std.proofs.lemmas.List.Elements.{All-from_recursion}
use Rattle.graph_core.specs.declared.order.Order.TheVariants.{Separate}
use Rattle.graph_core.specs.Text.{IsDigit, IsNumeral, decimal, newline}
use Rattle.graph_core.specs.Graph.Assignments.{literal}
use Rattle.algebra_core.specs.Polynomials.{Term}
use Rattle.graph_core.specs.Graph.Extended.{Column}
use Rattle.algebra_core.specs.AlgebraLines.{Combination, Part, AreLawful}
use Rattle.algebra_core.specs.Text.{IsLineText, AreFactors, IsPolynomial, IsAlgebraText, IsLawfulAlgebraFile, IsLineInRange, IsId, IsInRange}
use Rattle.algebra_core.specs.Reading.{algebra_at, algebra_line_at}
use Rattle.graph_core.specs.Text.Readers.{many_at}
use Rattle.graph_core.specs.Graph.Operands.{MultipliesWhole}
use Rattle.algebra_core.proofs.Reading.{algebra_is_read}
use Rattle.algebra_core.proofs.Sound.{specification-zero, axioms-vanish}
use Rattle.graph_core.proofs.OfGraphs.CallerLemmas.{whole_products}
use Rattle.algebra_core.proofs.Vanishing.{vanishing_multiplies}
use Rattle.graph_core.proofs.OfAiger.CallerLemmas.{one_bit, one_bit_text, one_bit_is_spelled}
use Rattle.algebra_core.proofs.LineRows.{plus, minus, premises, single, sides, spec_text, negated_gate, certificate_is_lawful, axiom_does_not_close}

-- a numeral of one digit
digit : (d b : ℕ) → 1 ≤ d → 48 ≤ b → b < 58 → IsNumeral d (b ∷ []) (decimal (b ∷ []))
digit d b room low high = record { some = omega arith; few = omega arith; digits = All-from_recursion IsDigit (b ∷ []) ((low, high), tt); number = refl }

minus_one : IsPolynomial (codes "-1") (minus 1 [] ∷ [])
minus_one = (codes "1", [], inl (codes "1", [], digit 39 49 (omega arith) (omega arith) (omega arith), refl, refl), refl, refl)

factor : (b : ℕ) → 48 ≤ b → b < 58 → (rest : List ℕ) (vs : List ℕ) → AreFactors rest vs → AreFactors (codes "*x" ++ (b ∷ []) ++ rest) (decimal (b ∷ []) ∷ vs)
factor b low high rest vs more = (b ∷ [], rest, digit 10 b (omega arith) low high, more, refl)

stated_text : IsPolynomial (codes "x3-x1*x2") spec_text
stated_text = (
  codes "x3",
  codes "-x1*x2",
  inr (refl, factor 51 (omega arith) (omega arith) [] [] refl),
  (codes "x1*x2", [], inr (refl, factor 49 (omega arith) (omega arith) (codes "*x2") (2 ∷ []) (factor 50 (omega arith) (omega arith) [] [] refl)), refl, refl),
  refl,
)

abbrev the_part : Part
the_part = record { id = 3; factor = minus 1 [] ∷ [] }

the_line : IsLineText 1 (codes "6 % 3 * (-1), x3-x1*x2;") (Combination 6 (the_part ∷ []) spec_text)
the_line = (
  codes "6",
  codes "3 * (-1)",
  codes "x3-x1*x2",
  digit 15 54 (omega arith) (omega arith) (omega arith),
  (codes "3", codes "-1", digit 15 51 (omega arith) (omega arith) (omega arith), minus_one, refl),
  stated_text,
  refl,
)

-- pac 1, the line, and q 6;
abbrev algebra_text : List ℕ
algebra_text = codes "pac 1" ++ newline ∷ (codes "6 % 3 * (-1), x3-x1*x2;" ++ newline ∷ (codes "q 6;" ++ newline ∷ []))

the_text : IsAlgebraText 1 algebra_text negated_gate 6
the_text = (
  codes "6 % 3 * (-1), x3-x1*x2;" ++ newline ∷ (codes "q 6;" ++ newline ∷ []),
  codes "q 6;" ++ newline ∷ [],
  codes "6",
  digit 15 54 (omega arith) (omega arith) (omega arith),
  (codes "6 % 3 * (-1), x3-x1*x2;", codes "q 6;" ++ newline ∷ [], the_line, refl, refl),
  refl,
  refl,
)

-- ids, coefficients and variables are in range
abbrev IsTermInRange : Term → Type 0
IsTermInRange t = (t.coefficient < 2 ^ 128) × All (λ v. (0 < v) × (v ≤ 3)) t.variables

term_in_range : (t : Term) → t.coefficient < 2 ^ 128 → AllByRecursion (λ v. (0 < v) × (v ≤ 3)) t.variables → IsTermInRange t
term_in_range t small h = (small, All-from_recursion (λ v. (0 < v) × (v ≤ 3)) t.variables h)

factor_in_range : IsInRange 3 (minus 1 [] ∷ [])
factor_in_range = All-from_recursion IsTermInRange (minus 1 [] ∷ []) (term_in_range (minus 1 []) (omega arith) tt, tt)

stated_in_range : IsInRange 3 spec_text
stated_in_range =
    All-from_recursion IsTermInRange spec_text (
      term_in_range (plus 1 (3 ∷ [])) (omega arith) ((omega arith, omega arith), tt),
      (term_in_range (minus 1 (1 ∷ 2 ∷ [])) (omega arith) ((omega arith, omega arith), ((omega arith, omega arith), tt)), tt),
    )

line_in_range : IsLineInRange 3 (Combination 6 (the_part ∷ []) spec_text)
line_in_range = (
  (omega arith, omega arith),
  All-from_recursion (λ part. IsId part.id × IsInRange 3 part.factor) (the_part ∷ []) (((omega arith, omega arith), factor_in_range), tt),
  stated_in_range,
)

algebra_file_is_lawful : IsLawfulAlgebraFile premises sides algebra_text
algebra_file_is_lawful = record {
  lines = negated_gate;
  closing = 6;
  text = the_text;
  in_range = All-from_recursion (IsLineInRange 3) negated_gate (line_in_range, tt);
  closing_in_range = (omega arith, omega arith);
  lawful = certificate_is_lawful;
}

-- The file is lawful, so the one-bit multiplier multiplies.
one_bit_multiplies : MultipliesWhole one_bit Separate
one_bit_multiplies =
    (whole_products one_bit Separate refl).0
    (vanishing_multiplies one_bit_text one_bit Separate one_bit_is_spelled (λ σ evaluates.
    specification-zero premises sides σ algebra_file_is_lawful.lines algebra_file_is_lawful.closing algebra_file_is_lawful.lawful tt
    (axioms-vanish single σ evaluates (All-from_recursion (λ (c : Column). literal σ c.old ≡ literal σ c.new) [] tt))))

-- pac 1, and q 3;
abbrev negative_text : List ℕ
negative_text = codes "pac 1" ++ newline ∷ (codes "q 3;" ++ newline ∷ [])

negative_is_read : algebra_at 1 negative_text ≡ Some ([], 3)
unfolding algebra_line_at many_at
negative_is_read = refl

-- The axiom of the gate is the negative of the specification.
negative_is_not_lawful : IsLawfulAlgebraFile premises sides negative_text → ⊥
negative_is_not_lawful h =
    let read = (algebra_is_read 1 negative_text h.lines h.closing).1 h.text in
    let same : (h.lines, h.closing) ≡ ([], 3) = same_Some (h.lines, h.closing) ([], 3) (sym read ∙ negative_is_read) in
    axiom_does_not_close (subst (λ r. AreLawful premises sides r.0 r.1) same h.lawful)
