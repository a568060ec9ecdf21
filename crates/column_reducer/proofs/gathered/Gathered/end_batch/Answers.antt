use Rattle.std.proofs.Common.{◌≡◌, length, rules}
use Rattle.column_reducer.proofs.Taken.{ended_itself}
use Rattle.column_reducer.proofs.Written.{no_items}
use Rattle.column_reducer.proofs.gathered.Gathered.end_batch.Goals as goal

pub returns-then-is_empty-clause-ended : goal.returns-then-is_empty-clause-ended
returns-then-is_empty-clause-ended c =
    let none : length c.args.self.now.parts.items ≡ 0 = search rules in ended_itself c.args.terms.now c.args.self.now (no_items c.args.self.now.parts.items none)
