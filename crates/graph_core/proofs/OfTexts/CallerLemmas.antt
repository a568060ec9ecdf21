-- What crates above may cite of lines, numerals and first refusals.
pub use Rattle.graph_core.proofs.OfTexts.FirstRefusal.{graph_is_read, not_spelled_and_refused, one_graph, one_refusal, refusal_is_read, spelled_or_refused}
pub use Rattle.graph_core.proofs.OfTexts.JudgedLines.{HasNoNewline, ShortFrom, StepsOn, begins_front, behind_either, behind_map, behind_short, behind_some, decided_long, exact_as, exact_map, front_exact, last_exact, line_or_none, meet, one_line, reached, short_next, short_nil, short_rest, short_within, start_here, start_later, start_next, then_exact, unless_exact, walk, within_short}
pub use Rattle.graph_core.proofs.OfTexts.Lines.{header_takes}
pub use Rattle.graph_core.proofs.OfTexts.Newlines.{none_append, none_back, none_in, none_numeral, none_same}
pub use Rattle.graph_core.proofs.OfTexts.NumeralReading.{bind_some, front_again, front_takes}
pub use Rattle.graph_core.proofs.OfTexts.Numerals.{digit_is, not_below}
pub use Rattle.graph_core.proofs.OfTexts.Shown.{shown_faults}
pub use Rattle.graph_core.proofs.OfTexts.Steady.{Sound, same_Err, same_Ok}
pub use Rattle.graph_core.proofs.OfTexts.Steps.{IsRoom, ascii_shown, front_nil, literals_are, literals_fail, literals_push, next_byte, room_digit, room_fits, triples_fail, triples_push, with_front}
pub use Rattle.graph_core.proofs.OfTexts.TextReaders.{OtherOf, many_next, numeral_first, one_longer, reads_as, reads_before, reads_behind, reads_bind, reads_choice, reads_ended, reads_many, reads_map, reads_number, reads_text, reads_then}
pub use Rattle.graph_core.proofs.Words.{AreMany, Anything, BehindText, Bind, Ended, IsReaderOf, NoneOf, OneOf, Then}
