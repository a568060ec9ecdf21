use Rattle.std.proofs.Common.{◌<◌, ◌≡◌, Bool, List, [], ◌∷◌, ◌++◌, length, slice_index_or, slice_set, true, false, refl, subst, arith}
use Rattle.clause_core.specs.declared.line.Line.{Line}
use Rattle.clause_core.specs.declared.line.Line.TheVariants.{Add, Delete}
use Rattle.cdcl_solver.specs.Deletions.{DeletesLine, log_view_of}
use Rattle.cdcl_solver.specs.Logs.{LogView}
use Rattle.cdcl_solver.proofs.LogLemmas.{log_small, log_deleted, view_deleted}
use Rattle.cdcl_solver.proofs.log.Log.delete.Goals as goal

pub delete-requires : goal.delete-requires
delete-requires c =
    let i = c.self.inside in
    let small = log_small i.lines.items i.live.items i.added i.runs c.self.invariant in
    let ok = i.lines.ok in
    omega arith

pub invariant_of-self-2 : goal.invariant_of-self-2
invariant_of-self-2 c =
    let i = c.self.inside in
    let below : c.args.place < length i.lines.items = subst (λ (xs : List Line). c.args.place < length xs) c.deref.ensures.value (c.if-not-is_live_at.ensures.within refl) in
    let marked : slice_index_or i.live.items c.args.place false ≡ true = subst (λ (xs : List Bool). slice_index_or xs c.args.place false ≡ true) c.deref-else-not-allow.ensures.value (c.if-not-is_live_at.ensures.there refl) in
    let line : (x : Line) → slice_index_or i.lines.items c.args.place x ≡ Add c.args.clause =
    subst (λ (xs : List Line). (x : Line) → slice_index_or xs c.args.place x ≡ Add c.args.clause) c.deref.ensures.value (c.if-not-is_live_at.ensures.line refl) in
    rw (c.in_ok-append.ensures.ok.0, c.in_ok-append.ensures.ok.1)
    (log_deleted i.lines.items i.live.items _ i.added i.runs c.delete.new.self c.args.place c.args.clause c.self.invariant below marked line refl (c.delete.ensures c.args.clause))

pub returns-clause-yes : goal.returns-clause-yes
returns-clause-yes c t =
    let i = c.self.inside in
    let below : c.args.place < length i.lines.items = subst (λ (xs : List Line). c.args.place < length xs) c.deref.ensures.value (c.if-not-is_live_at.ensures.within refl) in
    let marked : slice_index_or i.live.items c.args.place false ≡ true = subst (λ (xs : List Bool). slice_index_or xs c.args.place false ≡ true) c.deref-else-not-allow.ensures.value (c.if-not-is_live_at.ensures.there refl) in
    let line : (x : Line) → slice_index_or i.lines.items c.args.place x ≡ Add c.args.clause =
    subst (λ (xs : List Line). (x : Line) → slice_index_or xs c.args.place x ≡ Add c.args.clause) c.deref.ensures.value (c.if-not-is_live_at.ensures.line refl) in
    let after : LogView = log_view_of (i.lines.items ++ Delete c.args.clause ∷ []) (slice_set (i.live.items ++ false ∷ []) c.args.place false) in
    rw (c.in_ok-append.ensures.ok.0, c.in_ok-append.ensures.ok.1)
    (subst (λ (v : LogView). DeletesLine v c.args.clause after) c.self.view_is
    (view_deleted i.lines.items i.live.items _ i.added i.runs c.args.place c.args.clause c.self.invariant (c.if-not-allow.ensures refl c.args.clause) below marked line refl))
