use Rattle.std.proofs.Common.{◌≡◌, length, refl, arith}
use Rattle.stage_guesser.proofs.Words.{same_signatures}
use Rattle.stage_guesser.proofs.signature.Signature.is.Goals as goal

pub returns : goal.returns
returns c =
    let one : length c.args.self.now.words ≡ 24 = omega arith in
    let other : length c.args.other.now.words ≡ 24 = omega arith in
    (λ yes. same_signatures c.args.self.now c.args.other.now (omega arith) (λ k below. c.loop-i.invariant k (omega arith)), λ same. refl)
