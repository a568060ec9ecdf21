use Rattle.std.proofs.Common.{◌≡◌, ◌⊎◌, ◌<◌, length, inl, inr, arith, ap, ℤ, pos, neg_ℤ, w32, subst, sym, ◌∙◌, slice_index_or, to_z, of_z}
use Rattle.std.specs.List.{Contains, All}
use Rattle.std.proofs.lemmas.Int.{to_z-of_z}
use Rattle.std.proofs.lemmas.List.{take_all}
use Rattle.std.proofs.lemmas.List.Elements.{All-more}
use Rattle.unit_prop.proofs.Codes.{as_literal, literal_fits}
use Rattle.unit_prop.proofs.near.other_open.Goals as goal
use Rattle.unit_prop.proofs.near.other_open.Goals.{else-lit-other-via-then-lit-other+else-not-is_false, else-lit-other-via-else-lit-other}

pub loop-lit-preserved : goal.loop-lit-preserved
loop-lit-preserved c =
    let fits = to_z-of_z w32 c.args.other c.ranges.other in
    let within : c.loop-lit.lit-index < length c.args.own.now = omega arith in
    let read = to_z-of_z w32 (slice_index_or c.args.own.now c.loop-lit.lit-index (pos 0)) (literal_fits (slice_index_or c.args.own.now c.loop-lit.lit-index (pos 0)) (as_literal (slice_index_or c.args.own.now c.loop-lit.lit-index (pos 0)) (c.requires c.loop-lit.lit-index (pos 0) within))) in
    All-more (λ (k : ℤ). (k ≡ to_z w32 (of_z w32 c.args.other)) ⊎ Contains c.args.lits.now (neg_ℤ k)) c.args.own.now c.loop-lit.lit-index (pos 0) within c.loop-lit.invariant
    (elim c.else-lit-other.branch [ else-lit-other-via-then-lit-other+else-not-is_false w ↦ inr ((rw read at w.is_false.ensures).0 w.if-not-is_false.false) | else-lit-other-via-else-lit-other w ↦ inl (sym read ∙ ap (to_z w32) w.if-lit-other.false) ])

pub returns : goal.returns
returns c =
    let fits = to_z-of_z w32 c.args.other c.ranges.other in
    let whole = take_all c.loop-lit.lit-index c.args.own.now (omega arith) in
    rw fits at (subst (λ xs. All (λ (k : ℤ). (k ≡ to_z w32 (of_z w32 c.args.other)) ⊎ Contains c.args.lits.now (neg_ℤ k)) xs) whole c.loop-lit.invariant)
