use Rattle.std.specs.Prelude.{◌≤◌, length}
use Rattle.std.specs.List.{All}
use Rattle.line_drafts.specs.LineRests.{GoesOn}
use Rattle.line_drafts.specs.Drafts.{IsKnownOf}
use Rattle.line_drafts.proofs.writing.write_drafts.Given as goal

abbrev pub invariant-loop-draft : goal.invariant-loop-draft
invariant-loop-draft l = record {
  goes_on : GoesOn l.fn.lines l.lines;
  known : All (IsKnownOf l.lines) l.known.items;
  few : length l.lines.lines ≤ l.draft-index;
}
