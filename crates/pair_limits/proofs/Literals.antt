-- The text of a literal.
use Rattle.std.specs.Prelude.{◌≡◌, ℤ, pos, negsuc, [], ◌∷◌, ◌++◌, codes, decimal, nat_abs}
use Rattle.std.specs.Fmt.{signed_decimal}
use Rattle.std.proofs.Common.{refl}
use Rattle.graph_core.specs.Text.{space}
use Rattle.drup_text.specs.WrittenTexts.{literal_sign}

pub literal_text : (l : ℤ) → (literal_sign l ++ decimal (nat_abs l)) ++ codes " " ≡ signed_decimal l ++ space ∷ []
literal_text (pos v) = refl
literal_text (negsuc v) = refl
