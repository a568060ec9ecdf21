-- What crates above may cite of lines, certificates, items read one after another, and texts put one after the other.
pub use Rattle.mv_text.proofs.CertificateAnswers.{end_read, fault_read, goes_on_again, line_not_read, line_read, needed_fault_read, needed_not_read, needed_read, reads_in_vain, reads_on}
pub use Rattle.mv_text.proofs.CertificateSteps.{IsNew, fault_is_no_end, first_fault, first_there, line_is_no_end, needed_refused, next_fault, next_refused_text, other_first, refused_text, some_left, text_is_taken, told, told_from, total_new}
pub use Rattle.mv_text.proofs.Gathering.{Gathers, gathers_all, gathers_misfit, gathers_more, gathers_none, many_stops, misfit_from, pushes_give}
pub use Rattle.mv_text.proofs.LineLengths.{end_is_short, line_is_taken, long_of, short_of}
pub use Rattle.mv_text.proofs.Putting.{Puts-is, Puts-more, Puts-nil, Puts-then, PutsUpTo, up_to_all, up_to_more, up_to_none, written_from}
