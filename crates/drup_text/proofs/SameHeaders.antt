-- The text of the certificate of two graphs is one file, and what is written is read.
use Rattle.std.specs.Prelude.{◌≡◌, List, ℕ, [], ◌++◌}
use Rattle.std.proofs.Common.{refl, sym, subst, ◌∙◌}
use Rattle.clause_core.specs.ClauseLines.{ClauseLine}
use Rattle.drup_text.specs.ClauseTexts.{AreLinesOf, IsClauseLine}
use Rattle.drup_text.specs.SameFiles.{IsSameFile, WrittenSameIsRead, same_line}
use Rattle.drup_text.specs.WrittenTexts.{clause_lines_text}
use Rattle.drup_text.proofs.OneFile.{lines_one}
use Rattle.drup_text.proofs.WrittenAgain.{lines_written}

-- no text is two files
pub one_same_file : (bytes : List ℕ) (xs ys : List ClauseLine) → IsSameFile bytes xs → IsSameFile bytes ys → xs ≡ ys
one_same_file bytes xs ys h i = lines_one i.0 xs ys (subst (λ z. AreLinesOf IsClauseLine z xs []) (same_body h.0 i.0 (sym h.2 ∙ i.2)) h.1) i.1
  where
    same_body : (x y : List ℕ) → same_line ++ x ≡ same_line ++ y → x ≡ y
    same_body x y e = cc

pub written_same_is_read : WrittenSameIsRead
written_same_is_read lines all = (clause_lines_text lines, lines_written lines all, refl)
