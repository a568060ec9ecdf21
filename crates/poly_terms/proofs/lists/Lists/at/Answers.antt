use Rattle.std.proofs.Common.{◌<◌, [], get_or, length, sym, ap, ap₂, ◌∙◌, arith}
use Rattle.std.specs.Prelude.{slice_range}
use Rattle.poly_terms.proofs.Listing.{end_below, length_lists, list_at, start_below}
use Rattle.poly_terms.proofs.lists.Lists.at.Goals as goal

pub around-start-requires : goal.around-start-requires
around-start-requires c =
    let long = length_lists 0 c.self.inside.variables.items c.self.inside.ends in
    omega (arith, c.requires, long, ap length c.self.view_is)

pub part-requires-clause-order : goal.part-requires-clause-order
part-requires-clause-order c =
    let vs = c.self.inside.variables.items in
    let ends = c.self.inside.ends in
    let long = length_lists 0 vs ends in
    let low : c.args.number < length ends = omega (arith, c.requires, long, ap length c.self.view_is) in
    let below = start_below 0 (length vs) ends c.args.number c.self.invariant low in
    omega (arith, below, c.around-start.ensures.before, c.around-start.ensures.at)

pub part-requires-clause-within : goal.part-requires-clause-within
part-requires-clause-within c =
    let vs = c.self.inside.variables.items in
    let ends = c.self.inside.ends in
    let long = length_lists 0 vs ends in
    let low : c.args.number < length ends = omega (arith, c.requires, long, ap length c.self.view_is) in
    let below = end_below 0 (length vs) ends c.args.number c.self.invariant low in
    omega (arith, below, c.around-start.ensures.at, ap length c.deref.ensures.value)

pub returns : goal.returns
returns c =
    let vs = c.self.inside.variables.items in
    let ends = c.self.inside.ends in
    let long = length_lists 0 vs ends in
    let low : c.args.number < length ends = omega (arith, c.requires, long, ap length c.self.view_is) in
    ap (λ ls. get_or ls c.args.number []) (sym c.self.view_is)
    ∙ list_at 0 vs ends c.args.number low
    ∙ ap₂ (slice_range vs) (sym c.around-start.ensures.before) (sym c.around-start.ensures.at)
    ∙ ap (λ us. slice_range us c.around-start.result.0 c.around-start.result.1) (sym c.deref.ensures.value)
    ∙ c.part.ensures
