use Rattle.std.proofs.Common.{◌≡◌, length, arith}
use Rattle.stage_guesser.proofs.Words.{set_here, set_others}
use Rattle.stage_guesser.proofs.signature.Signature.set.Goals as goal

pub returns-then-place-lt-WORDS-clause-here : goal.returns-then-place-lt-WORDS-clause-here
returns-then-place-lt-WORDS-clause-here c below =
    let long : length c.args.self.now.words ≡ 24 = omega arith in
    set_here c.args.self.now.words c.args.pattern (omega arith)

pub returns-then-place-lt-WORDS-clause-others : goal.returns-then-place-lt-WORDS-clause-others
returns-then-place-lt-WORDS-clause-others c p other =
    let long : length c.args.self.now.words ≡ 24 = omega arith in
    set_others c.args.self.now.words c.args.pattern p (omega arith) other
