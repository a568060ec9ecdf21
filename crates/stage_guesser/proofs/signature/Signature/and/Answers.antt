use Rattle.std.proofs.Common.{arith}
use Rattle.stage_guesser.proofs.Words.{and_values}
use Rattle.stage_guesser.proofs.signature.Signature.and.Goals as goal

pub returns : goal.returns
returns c p below = and_values c.args.self.now.words c.args.other.now.words c.loop-i.words p below (λ k low. c.loop-i.invariant.done k (omega arith))
