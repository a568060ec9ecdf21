use Rattle.std.proofs.Common.{◌+◌, ◌<◌, ◌≤◌, ◌∷◌, ◌∙◌, [], ap, arith, length, map, refl, sym, subst, true≢false}
use Rattle.std.specs.Prelude.{slice_index_or}
use Rattle.std.specs.List.{All}
use Rattle.std.proofs.lemmas.List.{length-drop}
use Rattle.graph_core.specs.Graph.Literals.{variable_of, constant_false}
use Rattle.adder_finder.specs.declared.stage.Next.{Next}
use Rattle.adder_finder.specs.FinalStage.{IsCovered, variables_of}
use Rattle.adder_finder.specs.Cover.{AreNeeds, ArePairsIn}
use Rattle.adder_finder.specs.StageSearch.{AreSidesIn, IsCount, IsWholeStage}
use Rattle.adder_finder.proofs.Stages.{found_here, missing_here, missing_next, missing_short, outputs_low, pairs_in, sides_in}
use Rattle.adder_finder.proofs.stage.cut_from.Goals as goal

pub next_shapes-requires : goal.next_shapes-requires
next_shapes-requires c =
    let rest = c.outputs_behind-rest in
    record { in_range = subst (All (λ l. variable_of l ≤ c.args.graph.now.max)) (sym rest.ensures.value) (outputs_low c.args.graph.now rest.ensures.built.well_formed (c.args.lo + 1)) }

pub returns-then-len-rest : goal.returns-then-len-rest
returns-then-len-rest c =
    let rest = c.outputs_behind-rest in
    missing_short c.args.graph.now rest.ensures.built.well_formed c.args.lo rest.result.now c.in_ok-nexts.nexts.items rest.ensures.value c.requires.in_range c.in_ok-nexts.ensures (omega (arith, c.len.ensures, c.if-len-rest.true))

pub misses-requires : goal.misses-requires
misses-requires c =
    let g = c.args.graph.now in
    let rest = c.outputs_behind-rest in
    let some : 0 < length c.in_ok-nexts.nexts.items = omega (arith, c.len.ensures, c.if-len-rest.false, c.if-rest-gt1.true) in
    let side = sides_in g rest.ensures.built.well_formed rest.result.now c.in_ok-nexts.nexts.items (g.max + 1) c.in_ok-nexts.ensures refl 0 c.index.result.now some in
    let at = ap (λ (n : Next). n.side) c.index.ensures in
    record { in_range = omega (arith, side, at) }

pub returns-then-misses : goal.returns-then-misses
returns-then-misses c =
    let rest = c.outputs_behind-rest in
    let nexts = c.in_ok-nexts.nexts.items in
    let some : 0 < length nexts = omega (arith, c.len.ensures, c.if-len-rest.false, c.if-rest-gt1.true) in
    missing_next c.args.graph.now rest.ensures.built.well_formed c.args.lo c.args.first rest.result.now nexts c.index.result.now rest.ensures.value c.requires.in_range c.requires.first c.in_ok-nexts.ensures c.if-rest-gt1.true some
    (subst (λ (n : Next). ¬ (IsCovered c.args.graph.now.gates (variables_of (c.args.first ∷ [])) n.side)) c.index.ensures (c.misses.ensures c.if-misses.true))

pub needs_of-requires : goal.needs_of-requires
needs_of-requires c =
    let g = c.args.graph.now in
    let rest = c.outputs_behind-rest in
    let few = rest.ensures.built.few_outputs in
    let low : c.args.lo < length g.outputs = c.requires.in_range in
    let short : length rest.result.now ≤ 255 = omega (arith, length-drop (c.args.lo + 1) g.outputs, ap length rest.ensures.value) in
    record {
      keys = c.requires.keys;
      pairs = subst (ArePairsIn g) (sym c.deref-2.ensures.value) (pairs_in g rest.ensures.built.well_formed (slice_index_or g.outputs c.args.lo constant_false) c.args.first rest.result.now c.in_ok-nexts.nexts.items c.in_ok-pairs.pairs.items
          (c.requires.first constant_false) c.in_ok-nexts.ensures short (c.in_ok-pairs.ensures ∙ ap (λ z. c.args.first ∷ map (λ n. n.pair) z) c.deref.ensures.value));
    }

pub covered_columns-count-requires-clause-in_range : goal.covered_columns-count-requires-clause-in_range
covered_columns-count-requires-clause-in_range c =
    let g = c.args.graph.now in
    let rest = c.outputs_behind-rest in
    subst (AreSidesIn (length c.deref-3.result.now)) (sym c.deref-4.ensures.value)
    (sides_in g rest.ensures.built.well_formed rest.result.now c.in_ok-nexts.nexts.items (length c.deref-3.result.now) c.in_ok-nexts.ensures (ap length c.deref-3.ensures.value ∙ c.in_ok-needs.ensures.room))

pub are_all-requires-clause-in_range : goal.are_all-requires-clause-in_range
are_all-requires-clause-in_range c k d below =
    let g = c.args.graph.now in
    let rest = c.outputs_behind-rest in
    let ranges = subst (All (λ l. variable_of l ≤ g.max)) (sym rest.ensures.value) (outputs_low g rest.ensures.built.well_formed (c.args.lo + 1)) in
    let own = ranges k d below in
    let room = ap length c.deref-5.ensures.value ∙ c.in_ok-needs.ensures.room in
    omega arith

pub returns-then-not-are_all : goal.returns-then-not-are_all
returns-then-not-are_all c =
    let g = c.args.graph.now in
    let rest = c.outputs_behind-rest in
    let nexts = c.in_ok-nexts.nexts.items in
    let needs = c.in_ok-needs.needs.items in
    let count = c.covered_columns-count.result in
    missing_here g rest.ensures.built.well_formed c.args.lo c.args.first rest.result.now nexts c.in_ok-pairs.pairs.items needs count rest.ensures.value c.requires.in_range c.requires.first c.in_ok-nexts.ensures
    (c.in_ok-pairs.ensures ∙ ap (λ z. c.args.first ∷ map (λ n. n.pair) z) c.deref.ensures.value)
    (subst (λ z. AreNeeds g z needs) c.deref-2.ensures.value c.in_ok-needs.ensures)
    (subst (λ z. IsCount z nexts count) c.deref-3.ensures.value (subst (λ z. IsCount c.deref-3.result.now z count) c.deref-4.ensures.value c.covered_columns-count.ensures))
    (λ h. true≢false (sym (c.if-not-are_all.ensures.1 (subst (λ z. IsWholeStage z rest.result.now count) (sym c.deref-5.ensures.value) h))))

pub returns : goal.returns
returns c =
    let g = c.args.graph.now in
    let rest = c.outputs_behind-rest in
    let nexts = c.in_ok-nexts.nexts.items in
    let needs = c.in_ok-needs.needs.items in
    let count = c.covered_columns-count.result in
    found_here g rest.ensures.built.well_formed c.args.lo c.args.first rest.result.now nexts c.in_ok-pairs.pairs.items needs count rest.ensures.value c.requires.in_range c.requires.first c.in_ok-nexts.ensures
    (c.in_ok-pairs.ensures ∙ ap (λ z. c.args.first ∷ map (λ n. n.pair) z) c.deref.ensures.value)
    (subst (λ z. AreNeeds g z needs) c.deref-2.ensures.value c.in_ok-needs.ensures)
    (subst (λ z. IsCount z nexts count) c.deref-3.ensures.value (subst (λ z. IsCount c.deref-3.result.now z count) c.deref-4.ensures.value c.covered_columns-count.ensures))
    c.from_vec.result (c.from_vec.ensures ∙ c.truncate.ensures.items)
    (subst (λ z. IsWholeStage z rest.result.now count) c.deref-5.ensures.value (c.if-not-are_all.ensures.0 refl))
