use Rattle.std.specs.Prelude.{◌≡◌}
use Rattle.std.specs.declared.option.Option.TheVariants.{Some}
use Rattle.std.proofs.Common.{sym, ap, ◌∙◌}
use Rattle.ripple_graft.specs.Grafts.{seen}
use Rattle.ripple_graft.proofs.ReplacedColumns.{all_in}
use Rattle.ripple_graft.proofs.extended.Extended.is_apart.Goals as goal

pub returns-in-Some : goal.returns-in-Some
returns-in-Some c =
    let view : seen c.self.inside.graph.now (Some c.in-Some.added) ≡ c.args.self.now = ap (seen c.self.inside.graph.now) (sym c.in-Some.is) ∙ c.self.view_is in
    let told = rw c.deref.ensures.value at c.are_apart.ensures in
    let as_kept = all_in c.in-Some.added.columns.items c.args.lo c.args.end in
    rw (← view) (λ t. as_kept.0 (told.0 t), λ h. told.1 (as_kept.1 h))
