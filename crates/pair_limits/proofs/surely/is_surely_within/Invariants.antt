use Rattle.std.proofs.Common.{◌+◌, ◌++◌, drop}
use Rattle.graph_core.specs.Text.JudgedLines.{IsWithin}
use Rattle.mv_text.specs.LineReading.{lengths_of}
use Rattle.poly_terms.specs.Tables.{modulus_in}
use Rattle.poly_text.specs.Recorded.{lines_in}
use Rattle.poly_text.specs.WrittenLines.{written_certificate}
use Rattle.pac_writer.proofs.Texts.{written_in}
use Rattle.pair_limits.proofs.Lengths.{ended}
use Rattle.pair_limits.proofs.surely.is_surely_within.Given as goal

-- Where the lines that are left are within what is left, the certificate is within the limits.
abbrev pub invariant-loop-line : goal.invariant-loop-line
invariant-loop-line l =
    IsWithin (record { file = l.file + 32; line = l.limits.line }) (written_in l.terms (drop l.line-index l.lines) ++ ended l.closing) →
    IsWithin (lengths_of l.limits) (written_certificate l.version (modulus_in l.terms) (lines_in l.terms l.lines) l.closing)
