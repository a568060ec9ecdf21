use Rattle.std.proofs.Common.{refl}
use Rattle.ripple_graft.proofs.CutTests.{columns_no_literal, cut_fits, cut_grafted, cut_is, few_given, literal_told, made_no_fault, memory_no_columns, memory_no_literal, no_columns_told}
use Rattle.ripple_graft.proofs.grafting.graft.Goals as goal

pub first_unknown-requires : goal.first_unknown-requires
first_unknown-requires c = few_given c.args.graph.now c.args.cut.now c.as_slice.result.now c.as_slice.ensures c.has_columns.ensures.few (c.if-not-has_columns.ensures.value.0 refl)

pub has_carry-requires : goal.has_carry-requires
has_carry-requires c = c.has_columns.ensures.few (c.if-not-has_columns.ensures.value.0 refl)

pub with_block-requires : goal.with_block-requires
with_block-requires c =
    let cut = cut_is c.args.graph.now c.args.cut.now c.as_slice.result.now c.without_cut-alone.result c.as_slice.ensures c.without_cut-alone.ensures (c.if-not-has_columns.ensures.value.0 refl) c.in_default.ensures in
    cut_fits c.args.graph.now c.args.cut.now c.without_cut-alone.result c.has_carry.result cut c.without_cut-alone.ensures c.has_carry.ensures

pub returns-in-Some-clause-literal : goal.returns-in-Some-clause-literal
returns-in-Some-clause-literal c i e =
    literal_told c.args.graph.now c.args.cut.now c.as_slice.result.now c.without_cut-alone.result c.in-Some.i i _ c.as_slice.ensures c.without_cut-alone.ensures (c.if-not-has_columns.ensures.value.0 refl) c.in-Some.ensures refl e

pub returns-in-Ok-clause-ok : goal.returns-in-Ok-clause-ok
returns-in-Ok-clause-ok c = (
  cut_is c.args.graph.now c.args.cut.now c.as_slice.result.now c.without_cut-alone.result c.as_slice.ensures c.without_cut-alone.ensures (c.if-not-has_columns.ensures.value.0 refl) c.in_default.ensures,
  cut_grafted c.args.graph.now c.args.cut.now c.without_cut-alone.result _ c.has_carry.result c.without_cut-alone.ensures c.has_carry.ensures c.in-Ok.ensures,
)

pub returns-then-not-has_columns-clause-columns : goal.returns-then-not-has_columns-clause-columns
returns-then-not-has_columns-clause-columns c e = no_columns_told c.args.graph.now c.args.cut.now c.if-not-has_columns.ensures.value

pub returns-then-not-has_columns-clause-literal : goal.returns-then-not-has_columns-clause-literal
returns-then-not-has_columns-clause-literal c i e = absurd (columns_no_literal _ i refl e)

pub returns-in-Some-clause-columns : goal.returns-in-Some-clause-columns
returns-in-Some-clause-columns c e h = columns_no_literal _ c.in-Some.i e refl

pub returns-in-Ok-clause-columns : goal.returns-in-Ok-clause-columns
returns-in-Ok-clause-columns c e h = made_no_fault _ c.in-Ok.extended _ refl e

pub returns-in-Ok-clause-literal : goal.returns-in-Ok-clause-literal
returns-in-Ok-clause-literal c i e = absurd (made_no_fault _ c.in-Ok.extended _ refl e)

pub returns-in-Err-clause-columns : goal.returns-in-Err-clause-columns
returns-in-Err-clause-columns c e h = memory_no_columns _ refl e

pub returns-in-Err-clause-literal : goal.returns-in-Err-clause-literal
returns-in-Err-clause-literal c i e = absurd (memory_no_literal _ i refl e)
