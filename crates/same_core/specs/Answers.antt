-- The answers of a pair of graphs, from those of the readers and of the checker. Private clauses alone cite them.
use Rattle.command_core.specs.declared.stop.Stop.TheVariants as stop
use Rattle.clause_judge.specs.declared.fail.ClauseFail.{ClauseFail}
use Rattle.clause_judge.specs.declared.fail.ClauseFail.TheVariants as clauses
use Rattle.same_core.specs.declared.checked.SameChecked.{SameChecked}
use Rattle.same_core.specs.declared.checked.SameChecked.TheVariants as checked
use Rattle.same_core.specs.declared.checked.SameRefusal.TheVariants as refusal
use Rattle.same_core.specs.declared.merged.MergeFail.{MergeFail}
use Rattle.same_core.specs.declared.merged.MergeFail.TheVariants as merge
use Rattle.same_core.specs.declared.pairs.PairFail.{PairFail}
use Rattle.same_core.specs.declared.pairs.PairFail.TheVariants as pair
use Rattle.same_core.specs.declared.verdict.Same.{Same}
use Rattle.same_core.specs.declared.verdict.Same.TheVariants as same

-- two graphs weren't merged
abbrev pub answer_of_merge : MergeFail → PairFail
answer_of_merge merge.Shape = pair.Shapes
answer_of_merge merge.Memory = pair.Stopped stop.Memory

-- no pair was read for a check
abbrev pub answer_of_pair : PairFail → SameChecked
answer_of_pair pair.Shapes = checked.Shapes
answer_of_pair (pair.Stopped why) = checked.Stopped why

-- no pair was read for a solver
abbrev pub same_of_pair : PairFail → Same
same_of_pair pair.Shapes = same.Shapes
same_of_pair (pair.Stopped why) = same.Stopped why

-- the lines of the clause file weren't taken
abbrev pub pair_answer_of_clauses : ClauseFail → SameChecked
pair_answer_of_clauses (clauses.Line line why) = checked.Refused (refusal.Clauses line why)
pair_answer_of_clauses (clauses.Goals output) = checked.Refused (refusal.Goals output)
pair_answer_of_clauses (clauses.Stopped why) = checked.Stopped why
