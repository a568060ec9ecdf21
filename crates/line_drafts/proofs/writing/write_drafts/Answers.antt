use Rattle.std.specs.declared.option.Option.TheVariants.{Some}
use Rattle.std.proofs.Common.{arith}
use Rattle.std.proofs.lemmas.List.Elements.{All-pop}
use Rattle.line_drafts.specs.Drafts.{IsKnownOf}
use Rattle.line_drafts.proofs.Starts.{goes_on_itself, goes_on_more, grown_goes_on}
use Rattle.line_drafts.proofs.writing.write_drafts.Goals as goal

pub returns-then-drafts-most_lines-clause-goes_on : goal.returns-then-drafts-most_lines-clause-goes_on
returns-then-drafts-most_lines-clause-goes_on c = goes_on_itself c.args.lines.now c.requires.unclosed

pub returns-in_err-write_draft-clause-goes_on : goal.returns-in_err-write_draft-clause-goes_on
returns-in_err-write_draft-clause-goes_on c = goes_on_more c.args.lines.now c.loop-draft.lines c.write_draft.new.lines c.loop-draft.invariant.goes_on c.write_draft.ensures.goes_on

pub returns-then-not-branch-clause-goes_on : goal.returns-then-not-branch-clause-goes_on
returns-then-not-branch-clause-goes_on c = goes_on_more c.args.lines.now c.loop-draft.lines c.write_draft.new.lines c.loop-draft.invariant.goes_on c.write_draft.ensures.goes_on

pub loop-draft-preserved : goal.loop-draft-preserved
loop-draft-preserved c = record {
  goes_on = goes_on_more c.args.lines.now c.loop-draft.lines c.write_draft.new.lines c.loop-draft.invariant.goes_on c.write_draft.ensures.goes_on;
  known = c.in_ok-write_draft.ensures.known;
  few = omega (arith, c.loop-draft.invariant.few, c.write_draft.ensures.few);
}

pub rest_of-requires : goal.rest_of-requires
rest_of-requires c = (All-pop (IsKnownOf c.loop-draft.lines) c.loop-draft.known.items c.pop.new.self.items (Some c.in-Some.line) c.in-Some.ensures.items c.loop-draft.invariant.known).1

pub returns-clause-goes_on : goal.returns-clause-goes_on
returns-clause-goes_on c =
    let before = c.loop-draft.lines in
    goes_on_more c.args.lines.now before c.rest_of.new.lines c.loop-draft.invariant.goes_on (grown_goes_on before c.rest_of.new.lines c.loop-draft.invariant.goes_on.unclosed c.rest_of.ensures.grows)
