use Rattle.command_line.proofs.AnyNames.{names_are_checked}
use Rattle.command_line.proofs.Numerals.{numbers_are_numerals}
use Rattle.command_line.proofs.PlainWords.{added, corrected, interleaved, made, made_wide, no_sum, no_wide_sum, over_clauses, over_graph, signed_sum, sum, too_few, tried, trimmed, twice, wide, wide_interleaved}
use Rattle.command_line.proofs.WidthTexts.{widths_are_numerals}
use Rattle.command_line.proofs.examples.plain_words.Goals as goal

pub returns : goal.returns
returns c = record {
  names = names_are_checked;
  numbers = numbers_are_numerals;
  widths = widths_are_numerals;
  interleaved = interleaved;
  signed_sum = signed_sum;
  wide = wide;
  wide_interleaved = wide_interleaved;
  made = made;
  made_wide = made_wide;
  no_wide_sum = no_wide_sum;
  corrected = corrected;
  sum = sum;
  no_sum = no_sum;
  added = added;
  tried = tried;
  too_few = too_few;
  trimmed = trimmed;
  over_graph = over_graph;
  over_clauses = over_clauses;
  twice = twice;
}
