use Rattle.std.proofs.Common.{rules}
use Rattle.std.specs.Option.{IsNone}
use Rattle.stage_rewriter.proofs.rewriting.rewrite.Goals as goal

pub returns-in-None-clause-rewriting : goal.returns-in-None-clause-rewriting
returns-in-None-clause-rewriting c = let none : IsNone c.in_ok-final_stage.field-0 = search rules in λ cut stage. c.in_ok-final_stage.ensures.none.0 none cut stage.fit
