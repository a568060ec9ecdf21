-- A certificate is opened, and read to its end or up to a failure.
use Rattle.std.specs.Prelude.{◌≢◌, Result}
use Rattle.std.proofs.Common.{List, ℕ}
use Rattle.command_core.proofs.CallerLemmas.{opened_told, same_told}
use Rattle.joint_checker.specs.Reading.{ReadsCertificate}
use Rattle.mv_desk.specs.Calls.{HasReadCause, Opens, ReadsOnly}
use Rattle.mv_desk.specs.View.{IsSame, KeepsTelling, OpensFiles, View}
use Rattle.mv_desk.specs.declared.slot.Slot.{Slot}
use Rattle.mv_desk.specs.declared.slot.Slot.TheVariants.{Report}
use Rattle.mv_desk.proofs.CallerLemmas.{Inspects-Opens, Inspects-ReadsOnly, Inspects-trans, KeepsTelling-trans, OpensFiles-still, SlotStays-trans}

module _ {T E : Type 0} (at : Slot) (name : List ℕ) (a b : View) (result : Result T E) (cause : HasReadCause a b result) (counted : OpensFiles 1 a b) (tells : KeepsTelling a b) where
  -- and then a slot but the report is read
  pub opened_and_read : (c : View) → Report ≢ at → Opens at name a b → ReadsOnly at b c → KeepsTelling b c → ReadsCertificate at name a c
  opened_and_read c apart opens reads tells_on = record {
    others = λ other apart. SlotStays-trans other a b c (opens.others other apart) (reads.others other apart);
    named = opened_told at name a b c opens reads;
    opened = OpensFiles-still 1 a b c counted reads.opened;
    inspects = Inspects-trans a b c (Inspects-Opens at name a b result apart opens cause) (Inspects-ReadsOnly at b c apart reads);
    tells = KeepsTelling-trans a b c tells tells_on;
  }

  -- it failed to open
  pub not_opened : IsSame a b → ReadsCertificate at name a b
  not_opened same = record {
    others = λ other apart. same.slots other;
    named = λ held told. same_told (a.name at) (b.name at) (same.slots at).mode.name told;
    opened = counted;
    inspects = record { report = same.slots Report; held = same.held; later = cause.later; write_faults = cause.write_faults };
    tells = tells;
  }
