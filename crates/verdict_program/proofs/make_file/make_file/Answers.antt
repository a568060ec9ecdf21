use Rattle.std.proofs.Common.{refl, subst}
use Rattle.mv_desk.proofs.CallerLemmas.{KeepsTelling-refl}
use Rattle.verdict_program.specs.Making.{IsMade, text_for}
use Rattle.verdict_program.proofs.CreatingLemmas.{IsSame-refl, no_fault, same_leaves}
use Rattle.verdict_program.proofs.make_file.make_file.Goals as goal

pub make_design-requires : goal.make_design-requires
make_design-requires g c = record { some = c.requires.some; few = c.requires.narrow; design = c.requires.design }

pub create_file-requires : goal.create_file-requires
create_file-requires g c = record { packed = c.in-Ok.ensures.packed }

pub returns-in-Ok : goal.returns-in-Ok
returns-in-Ok g c =
    let a = g.D.Desk.seen c.args.desk.now in
    let z = g.D.Desk.seen c.create_file.new.desk in
    let name = c.args.out.now in
    let did = c.create_file.ensures in
    record {
      outcome = subst (λ h. IsMade (text_for name h) name a z c.create_file.result) c.in-Ok.ensures.ok did.outcome;
      opened = did.opened;
      report = did.report;
      later = did.later;
      tells = did.tells;
    }

pub returns-in-Err : goal.returns-in-Err
returns-in-Err g c =
    let a = g.D.Desk.seen c.args.desk.now in
    let same = IsSame-refl a in
    record { outcome = same; opened = refl; report = same_leaves a a same; later = no_fault a; tells = KeepsTelling-refl a }
