use Rattle.std.proofs.Common.{◌≢◌, ◌≤◌, ℤ, pos, nat_abs, refl}
use Rattle.std.proofs.lemmas.List.Elements.{All-push}
use Rattle.crate_tests.proofs.clause_lists.keep.Goals as goal

pub returns : goal.returns
returns c = rw c.in_ok-push.ensures.items (All-push (λ (l : ℤ). (l ≢ pos 0) × (nat_abs l ≤ c.args.max)) c.args.kept.now.items _ c.requires (c.if-not-is_within.ensures refl))
