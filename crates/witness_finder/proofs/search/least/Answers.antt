use Rattle.std.proofs.Common.{sym, ap, subst, ◌∙◌}
use Rattle.std.proofs.lemmas.Option.{none-some}
use Rattle.graph_core.specs.Graph.Operands.{inputs_in}
use Rattle.frontier_core.specs.LeastDifference.{IsLeastNonzero}
use Rattle.frontier_core.proofs.CallerLemmas.{least_term_gives_inputs}
use Rattle.poly_terms.specs.Tables.{modulus_in, monomials_in, value_in}
use Rattle.poly_terms.proofs.Values.{normal}
use Rattle.witness_finder.specs.Positions.{bits_at}
use Rattle.witness_finder.proofs.Searching.{no_term, variables_at}
use Rattle.witness_finder.proofs.search.least.Goals as goal

pub returns-clause-some : goal.returns-clause-some
returns-clause-some c =
    let t = c.args.terms.now in
    let p = c.args.poly.now in
    let s = c.args.operands.now in
    let ts = monomials_in t p in
    let place = c.least_place-place.result in
    let variables = variables_at ts place no_term c.vars.result.now c.least_place-place.ensures.place c.vars.ensures in
    subst (IsLeastNonzero (value_in t p) (inputs_in s)) (ap (bits_at s) variables ∙ sym c.numbers_at.ensures.inputs)
    (least_term_gives_inputs (modulus_in t) (inputs_in s) ts _ c.requires.inputs (normal t p c.requires.of) c.requires.over (c.least_place-place.ensures.least no_term))

pub returns-clause-none : goal.returns-clause-none
returns-clause-none c = ((λ e. absurd (none-some _ (sym e))), (λ zero. absurd ((returns-clause-some c).nonzero (zero _))))
