-- The ends of lines that are put after a report.
use Rattle.std.specs.Prelude.{◌≡◌, ℕ, List, [], ◌∷◌, ◌++◌}
use Rattle.std.proofs.Common.{ap, append_assoc, ◌∙◌}
use Rattle.graph_core.specs.Text.{newline}

pub number_line : (old text digits : List ℕ) → (old ++ text ++ digits) ++ newline ∷ [] ≡ old ++ (text ++ digits ++ newline ∷ [])
number_line old text digits = ap (λ xs. xs ++ newline ∷ []) (append_assoc old text digits) ∙ append_assoc old (text ++ digits) (newline ∷ [])

pub numbers_line : (old text digits more other : List ℕ) → ((old ++ text ++ digits) ++ more ++ other) ++ newline ∷ [] ≡ old ++ (text ++ digits ++ more ++ other ++ newline ∷ [])
numbers_line old text digits more other =
    ap (λ xs. xs ++ more ++ other ++ newline ∷ []) (append_assoc old text digits) ∙ ap (λ xs. xs ++ other ++ newline ∷ []) (append_assoc old (text ++ digits) more) ∙
    number_line old (text ++ digits ++ more) other
