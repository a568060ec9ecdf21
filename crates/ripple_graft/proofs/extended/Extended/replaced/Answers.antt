use Rattle.std.specs.Prelude.{◌≡◌}
use Rattle.std.specs.declared.option.Option.TheVariants.{Some}
use Rattle.std.proofs.Common.{sym, ap, ◌∙◌}
use Rattle.ripple_graft.specs.Grafts.{seen}
use Rattle.ripple_graft.proofs.ReplacedColumns.{any_in}
use Rattle.ripple_graft.proofs.extended.Extended.replaced.Goals as goal

pub returns-in-Some : goal.returns-in-Some
returns-in-Some c =
    let view : seen c.self.inside.graph.now (Some c.in-Some.added) ≡ c.args.self.now = ap (seen c.self.inside.graph.now) (sym c.in-Some.is) ∙ c.self.view_is in
    let told = rw c.deref.ensures.value at c.is_among.ensures in
    let as_kept = any_in c.in-Some.added.columns.items c.args.k in
    rw (← view) (λ t. as_kept.0 (told.0 t), λ h. told.1 (as_kept.1 h))
