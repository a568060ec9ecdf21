use Rattle.std.proofs.Common.{◌-◌, ap}
use Rattle.std.specs.Prelude.{bit_and}
use Rattle.poly_terms.specs.Chains.{chain_of}
use Rattle.poly_terms.proofs.chains.chain_of.Goals as goal

pub returns-clause-chain : goal.returns-clause-chain
unfolding chain_of
returns-clause-chain c = ap (λ n. bit_and n (c.args.count - 1)) c.folded.ensures
