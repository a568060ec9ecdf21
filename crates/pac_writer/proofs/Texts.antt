-- The text that is written for lines.
use Rattle.std.specs.Prelude.{◌≡◌, ℕ, suc, ◌+◌, ◌<◌, ◌≤◌, List, [], ◌∷◌, ◌++◌, drop, length, get_or, IsSome}
use Rattle.std.specs.List.{All}
use Rattle.std.proofs.Common.{refl, sym, ap, subst, ◌∙◌, arith, drop-cons}
use Rattle.std.proofs.lemmas.List.{drop_all}
use Rattle.std.proofs.lemmas.List.Elements.{All-get_or}
use Rattle.poly_terms.specs.Tables.{Table, modulus_in}
use Rattle.poly_text.specs.declared.line.PacLine.{PacLine}
use Rattle.poly_text.specs.declared.line.PacLine.TheVariants.{Close}
use Rattle.poly_text.specs.Lines.{line_in}
use Rattle.poly_text.specs.Recorded.{lines_in}
use Rattle.poly_text.specs.WrittenLines.{written_lines, written_text}

-- the text of lines of a table
abbrev pub written_in : Table → List PacLine → List ℕ
written_in t xs = written_lines (modulus_in t) (lines_in t xs)

-- it begins with the first line's text
first_text : (t : Table) (x : PacLine) (xs : List PacLine) → IsSome (line_in t x) → written_in t (x ∷ xs) ≡ written_text t x ++ written_in t xs
first_text t (Close id) xs h = absurd (cc h)
first_text t x xs h = refl

-- what is left begins with the next line's text
pub next_text : (t : Table) (xs : List PacLine) (i : ℕ) (x : PacLine) → All (λ y. IsSome (line_in t y)) xs → i < length xs → x ≡ get_or xs i x →
    written_in t (drop i xs) ≡ written_text t x ++ written_in t (drop (i + 1) xs)
next_text t xs i x go_on low is =
    let next : suc i ≡ i + 1 = omega arith in
    ap (written_in t) (drop-cons xs i x low ∙ ap (λ j. get_or xs i x ∷ drop j xs) next ∙ ap (λ y. y ∷ drop (i + 1) xs) (sym is)) ∙
    first_text t x (drop (i + 1) xs) (subst (λ y. IsSome (line_in t y)) (sym is) (All-get_or (λ y. IsSome (line_in t y)) xs i x low go_on))

-- nothing is left after the last one
pub no_text : (t : Table) (xs : List PacLine) (i : ℕ) → length xs ≤ i → written_in t (drop i xs) ≡ []
no_text t xs i past = ap (written_in t) (drop_all i xs past)
