-- The texts of a pair of certificates, and when it can be written.
use Rattle.std.specs.Prelude.{◌≡◌, ◌⊎◌, ◌≤◌, ℕ, List, length, IsSome}
use Rattle.std.specs.List.{All}
use Rattle.algebra_core.specs.Text.{IsId}
use Rattle.drup_text.specs.WrittenTexts.{any_file_text}
use Rattle.pac_writer.specs.Certificates.{written_certificate}
use Rattle.poly_terms.specs.Tables as table
use Rattle.poly_text.specs.Lines.{AreOf, line_in}
use Rattle.poly_text.specs.Recorded.{lines_in}
use Rattle.poly_text.specs.WrittenLines.{IsWritable}
use Rattle.pair_core.specs.declared.pair.Pair.{Pair}

abbrev pub clauses_text : Pair → List ℕ
clauses_text p = any_file_text p.header p.clauses.items

abbrev pub algebra_text : Pair → List ℕ
algebra_text p = written_certificate p.header.version (table.modulus_in p.terms) (lines_in p.terms p.algebra.items) p.closing

-- What writing asks: a header that can be written, lines of the table that can be, and a closing line.
pub record CanBeWritten (p : Pair) : Type 0 where
  pub one : (p.header.version ≡ 2) ⊎ (length p.header.blocks ≤ 1)
  pub go_on : All (λ line. IsSome (line_in p.terms line)) p.algebra.items
  pub of : All (AreOf p.terms) p.algebra.items
  pub writable : All IsWritable p.algebra.items
  pub closing : IsId p.closing
