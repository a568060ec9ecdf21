use Rattle.std.proofs.Common.{slice_index, arith}
use Rattle.std.specs.Prelude.{bit_xor}
use Rattle.std.proofs.lemmas.List.{length-set}
use Rattle.stage_guesser.proofs.Words.{done_more, negated_values, rest_more}
use Rattle.stage_guesser.proofs.signature.Signature.negated_if.Goals as goal

pub returns : goal.returns
returns c p below = negated_values c.args.negated c.args.self.now.words c.loop-i.words c.mask_of-mask.result p below c.mask_of-mask.ensures (λ k low. c.loop-i.invariant.done k (omega arith))

pub loop-i-preserved : goal.loop-i-preserved
loop-i-preserved c =
    record {
      long = omega (arith, length-set c.loop-i.words c.loop-i.i (bit_xor (slice_index c.loop-i.words c.loop-i.i) c.mask_of-mask.result), c.loop-i.invariant.long);
      done = done_more (λ x. bit_xor x c.mask_of-mask.result) c.args.self.now.words c.loop-i.words c.loop-i.i (omega (arith, c.loop-i.invariant.long)) c.loop-i.invariant.done c.loop-i.invariant.rest;
      rest = rest_more c.args.self.now.words c.loop-i.words c.loop-i.i (bit_xor (slice_index c.loop-i.words c.loop-i.i) c.mask_of-mask.result) c.loop-i.invariant.rest;
    }
