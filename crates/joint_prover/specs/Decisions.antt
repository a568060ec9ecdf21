-- What is decided of a graph in memory.
use Rattle.std.specs.Prelude.{IfSome}
use Rattle.std.specs.declared.option.Option.{Option}
use Rattle.graph_core.specs.Graph.{Aig}
use Rattle.graph_core.specs.Graph.Operands.{Does}
use Rattle.joint_prover.specs.declared.replacement.Replacement.{Replacement}
use Rattle.pair_core.specs.Texts.{CanBeWritten, algebra_text, clauses_text}
use Rattle.joint_prover.specs.declared.decision.Decision.{Decision}
use Rattle.joint_prover.specs.declared.decision.Decision.TheVariants.{Proved, Wrong, Undecided}
use Rattle.command_core.specs.declared.task.Task.{Task}
use Rattle.joint_prover.specs.Pairs.{IsPairFor}
use Rattle.joint_prover.specs.Tries.{AreTried}
use Rattle.joint_prover.specs.Verdicts.{HaveManyOnes, IsFirstAbove, IsSeen, IsWrong}

-- With this in use or nothing: the graph does what is claimed, and the pair is one for it that can be written; the least numbers on which
-- it doesn't; or what was tried, where all plans passed the budget, and perhaps numbers on which it is seen that it doesn't.
abbrev pub IsDecision : Aig → Task → Option Replacement → Decision → Type 0
IsDecision g task used (Proved p) = Does task.claim g × CanBeWritten p × IsPairFor g task used (clauses_text p) (algebra_text p)
IsDecision g task used (Wrong d) = IsWrong g task.claim d
IsDecision g task used (Undecided tried step size seen) =
    IsFirstAbove g task.claim task.budget step size × AreTried g task.claim task.budget used tried.items × HaveManyOnes g task.claim ×
    IfSome seen (IsSeen g task.claim)
