use Rattle.std.proofs.Common.{◌≢◌, refl, subst, sym}
use Rattle.std.specs.List.{AllByRecursion}
use Rattle.std.specs.Prelude.{codes}
use Rattle.graph_core.specs.Text.{newline}
use Rattle.graph_core.proofs.OfTexts.CallerLemmas.{none_in}
use Rattle.drup_text.proofs.clause_file.ClauseFile.start_same.Goals as goal

pub start-requires-clause-plain : goal.start-requires-clause-plain
start-requires-clause-plain g c = subst (AllByRecursion (λ b. b ≢ newline)) (sym c.as_slice-first.ensures) (none_in (codes "same 1") refl)
