use Rattle.std.proofs.Common.{w32, SFits, rules}
use Rattle.std.proofs.lemmas.Int.{to_z-of_z}
use Rattle.cdcl_solver.proofs.SearchLemmas.{choice_of}
use Rattle.cdcl_solver.proofs.decision.open_literal.Goals as goal

pub returns-in-None : goal.returns-in-None
returns-in-None c =
    let fits : SFits w32 c.literal_of.result = search rules in
    rw (to_z-of_z w32 c.literal_of.result fits) (choice_of c.args.propagator.now c.args.var c.literal_of.result c.requires.some c.requires.within c.in-None.ensures c.literal_of.ensures)
