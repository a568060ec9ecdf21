use Rattle.std.specs.Prelude.{slice_index_or}
use Rattle.std.specs.List.{All}
use Rattle.std.proofs.Common.{ap, sym, subst, ◌∙◌}
use Rattle.std.proofs.lemmas.List.Elements.{All-push}
use Rattle.graph_core.specs.Graph.Extended.{Extended}
use Rattle.line_drafts.specs.Drafts.{IsKnownOf}
use Rattle.line_drafts.proofs.Writings.{known_grown, known_put, put_known, ready_equal, ready_from, ready_over, ready_spare}
use Rattle.line_drafts.proofs.line.write_draft.Goals as goal

pub returns-in_default-clause-known : goal.returns-in_default-clause-known
returns-in_default-clause-known c k d low = known_grown c.args.lines.now c.grow.new.self (slice_index_or c.args.known.now.items k d) c.grow.ensures.grows (c.requires.known k d low)

pub returns-then-last-ge-MOST_ID-clause-known : goal.returns-then-last-ge-MOST_ID-clause-known
returns-then-last-ge-MOST_ID-clause-known c k d low = known_grown c.args.lines.now c.grow.new.self (slice_index_or c.args.known.now.items k d) c.grow.ensures.grows (c.requires.known k d low)

pub combine-requires-clause-over : goal.combine-requires-clause-over
combine-requires-clause-over c =
    let l = c.args.lines.now in
    let grown = c.grow.new.self in
    let max_is = c.max-max.ensures.value ∙ ap (λ (e : Extended). e.max) c.extended.ensures in
    ready_over l grown c.in-Some.line c.grow.ensures.grows c.terms-modulus.ensures.modulus
    (ready_from l grown.table c.args.known.now.items c.as_slice.result.now c.max-max.result c.in_ok-line.field-0 c.in-Some.line c.in-Some.is c.as_slice.ensures.value max_is c.requires.known c.in_ok-line.ensures.did)

pub combine-requires-clause-spare : goal.combine-requires-clause-spare
combine-requires-clause-spare c =
    let l = c.args.lines.now in
    let grown = c.grow.new.self in
    let max_is = c.max-max.ensures.value ∙ ap (λ (e : Extended). e.max) c.extended.ensures in
    ready_spare l grown c.in-Some.line c.grow.ensures.grows c.terms-modulus.ensures.modulus
    (ready_from l grown.table c.args.known.now.items c.as_slice.result.now c.max-max.result c.in_ok-line.field-0 c.in-Some.line c.in-Some.is c.as_slice.ensures.value max_is c.requires.known c.in_ok-line.ensures.did)

pub combine-requires-clause-equal : goal.combine-requires-clause-equal
combine-requires-clause-equal c =
    let l = c.args.lines.now in
    let grown = c.grow.new.self in
    let max_is = c.max-max.ensures.value ∙ ap (λ (e : Extended). e.max) c.extended.ensures in
    ready_equal l grown c.in-Some.line c.grow.ensures.grows c.terms-modulus.ensures.modulus
    (ready_from l grown.table c.args.known.now.items c.as_slice.result.now c.max-max.result c.in_ok-line.field-0 c.in-Some.line c.in-Some.is c.as_slice.ensures.value max_is c.requires.known c.in_ok-line.ensures.did)

pub returns-clause-known : goal.returns-clause-known
returns-clause-known c =
    let l = c.args.lines.now in
    let grown = c.grow.new.self in
    let new = c.combine.new.self in
    let line = c.in-Some.line in
    let id = c.in_ok-id.id in
    let known = c.args.known.now.items in
    let max_is = c.max-max.ensures.value ∙ ap (λ (e : Extended). e.max) c.extended.ensures in
    let ready = ready_from l grown.table known c.as_slice.result.now c.max-max.result c.in_ok-line.field-0 line c.in-Some.is c.as_slice.ensures.value max_is c.requires.known c.in_ok-line.ensures.did in
    let is = c.in_ok-id.ensures.id in
    let puts = c.in_ok-id.ensures.writes in
    subst (All (IsKnownOf new)) (sym c.in_ok-push.ensures.items)
    (All-push (IsKnownOf new) known (record { id = id; poly = line.copy })
    (λ k d low. let here = slice_index_or known k d in known_put grown new id line.parts.items line.poly is puts here (known_grown l grown here c.grow.ensures.grows (c.requires.known k d low)))
    (put_known grown new id line.parts.items line.poly is puts line.copy c.terms-modulus.ensures.modulus ready.copy_of ready.copy))
