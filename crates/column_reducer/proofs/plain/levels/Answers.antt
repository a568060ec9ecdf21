use Rattle.std.proofs.Common.{arith}
use Rattle.column_reducer.proofs.PlainSteps.{keys_are, rises_of}
use Rattle.column_reducer.proofs.plain.levels.Goals as goal

pub returns : goal.returns
returns c =
    keys_are c.args.graph.now.gates c.in_ok-keys.keys.items c.sort.new.self.items c.sort.ensures.permutation c.in_ok-keys.ensures.levels c.in_ok-keys.ensures.variables
    (λ k d low. rises_of _ _ (c.in_ok-sort.ensures.sorted k d (omega arith) low))
