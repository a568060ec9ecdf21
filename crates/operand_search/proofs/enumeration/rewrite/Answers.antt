use Rattle.operand_search.proofs.Advancing.{rewritten}
use Rattle.operand_search.proofs.enumeration.rewrite.Goals as goal

pub returns : goal.returns
returns c = rewritten c.args.bits.now c.args.at c.args.ones c.fill.new.self c.fill-2.new.self c.requires (c.fill.ensures.after (λ y h. h)) (c.fill-2.ensures.after (λ y h. h))
