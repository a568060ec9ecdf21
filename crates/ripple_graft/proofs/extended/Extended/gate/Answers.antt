use Rattle.std.specs.Prelude.{◌≡◌}
use Rattle.std.specs.declared.option.Option.TheVariants.{Some}
use Rattle.std.proofs.Common.{sym, ap, subst, ◌∙◌, arith}
use Rattle.ripple_graft.specs.Grafts.{IsAddedGrafted, IsGrafted, seen, seen_in}
use Rattle.ripple_graft.proofs.GraftedGraphs.{added_gate, kept_free, free_before, kept_gates, not_free, length-gates}
use Rattle.ripple_graft.proofs.extended.Extended.gate.Goals as goal

pub index-requires : goal.index-requires
index-requires c =
    let kept : IsGrafted c.self.inside.graph.now (seen_in c.self.inside.graph.now c.in-Some.added) = subst (IsAddedGrafted c.self.inside.graph.now) c.in-Some.is c.self.invariant in
    let view : seen c.self.inside.graph.now (Some c.in-Some.added) ≡ c.args.self.now = ap (seen c.self.inside.graph.now) (sym c.in-Some.is) ∙ c.self.view_is in
    let high = rw (← view) at c.requires.in_range in
    let all = length-gates c.self.inside.graph.now (seen_in c.self.inside.graph.now c.in-Some.added) kept in
    rw c.gates.ensures.value (omega arith)

pub returns-then-v-own-clause-some : goal.returns-then-v-own-clause-some
returns-then-v-own-clause-some c =
    let kept : IsGrafted c.self.inside.graph.now (seen_in c.self.inside.graph.now c.in-Some.added) = subst (IsAddedGrafted c.self.inside.graph.now) c.in-Some.is c.self.invariant in
    let view : seen c.self.inside.graph.now (Some c.in-Some.added) ≡ c.args.self.now = ap (seen c.self.inside.graph.now) (sym c.in-Some.is) ∙ c.self.view_is in
    rw (← view) (kept_gates c.self.inside.graph.now (seen_in c.self.inside.graph.now c.in-Some.added) kept c.args.v c.gate-then-v-own.result c.gate-then-v-own.ensures.some)

pub returns-then-v-own-clause-none : goal.returns-then-v-own-clause-none
returns-then-v-own-clause-none c =
    let kept : IsGrafted c.self.inside.graph.now (seen_in c.self.inside.graph.now c.in-Some.added) = subst (IsAddedGrafted c.self.inside.graph.now) c.in-Some.is c.self.invariant in
    let view : seen c.self.inside.graph.now (Some c.in-Some.added) ≡ c.args.self.now = ap (seen c.self.inside.graph.now) (sym c.in-Some.is) ∙ c.self.view_is in
    rw (← view) (
      λ none. kept_free c.self.inside.graph.now (seen_in c.self.inside.graph.now c.in-Some.added) kept c.args.v (rw c.max-own.ensures.value at c.if-v-own.true) (c.gate-then-v-own.ensures.none.0 none),
      λ free. c.gate-then-v-own.ensures.none.1 (free_before c.self.inside.graph.now (seen_in c.self.inside.graph.now c.in-Some.added) kept c.args.v free),
    )

pub returns-else-v-own-clause-some : goal.returns-else-v-own-clause-some
returns-else-v-own-clause-some c =
    let kept : IsGrafted c.self.inside.graph.now (seen_in c.self.inside.graph.now c.in-Some.added) = subst (IsAddedGrafted c.self.inside.graph.now) c.in-Some.is c.self.invariant in
    let view : seen c.self.inside.graph.now (Some c.in-Some.added) ≡ c.args.self.now = ap (seen c.self.inside.graph.now) (sym c.in-Some.is) ∙ c.self.view_is in
    let high = rw (← view) at c.requires.in_range in
    rw (← view)
    (added_gate c.self.inside.graph.now (seen_in c.self.inside.graph.now c.in-Some.added) kept c.args.v _ c.index.result.now (rw c.max-own.ensures.value at c.if-v-own.false) high (omega arith)
    (rw (c.gates.ensures.value, c.max-own.ensures.value) at c.index.ensures))

pub returns-else-v-own-clause-none : goal.returns-else-v-own-clause-none
returns-else-v-own-clause-none c =
    let kept : IsGrafted c.self.inside.graph.now (seen_in c.self.inside.graph.now c.in-Some.added) = subst (IsAddedGrafted c.self.inside.graph.now) c.in-Some.is c.self.invariant in
    let view : seen c.self.inside.graph.now (Some c.in-Some.added) ≡ c.args.self.now = ap (seen c.self.inside.graph.now) (sym c.in-Some.is) ∙ c.self.view_is in
    let high = rw (← view) at c.requires.in_range in
    rw (← view) (
      λ never. absurd (cc),
      λ free. absurd
          (not_free c.self.inside.graph.now (seen_in c.self.inside.graph.now c.in-Some.added) kept c.args.v c.index.result.now
          (added_gate c.self.inside.graph.now (seen_in c.self.inside.graph.now c.in-Some.added) kept c.args.v _ c.index.result.now (rw c.max-own.ensures.value at c.if-v-own.false) high (omega arith)
          (rw (c.gates.ensures.value, c.max-own.ensures.value) at c.index.ensures)) free),
    )
