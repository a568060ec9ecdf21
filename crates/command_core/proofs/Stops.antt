-- Where stops come.
use Rattle.std.specs.Prelude.{◌⊎◌, IfSome}
use Rattle.std.proofs.Common.{◌≡◌, ◌≤◌, ℕ, List, Option, refl, sym, ap, subst, ◌∙◌, arith, inl, inr, ⊎_elim}
use Rattle.graph_core.specs.declared.profile.Profile.{Profile}
use Rattle.mv_desk.specs.View.{OpensFiles, Rose, View}
use Rattle.mv_desk.specs.declared.slot.Slot.{Slot}
use Rattle.aiger_reader.specs.Refusals.{Refuses}
use Rattle.command_core.specs.Stopping.{GivesDue, Interrupts, IsAbout, IsGraphStop, IsLong, IsStop, OpensUpTo, stop_of_read}
use Rattle.aiger_reader.specs.declared.fail.ReadFail.{ReadFail}
use Rattle.aiger_reader.specs.declared.fail.ReadFail.TheVariants as fail
use Rattle.command_core.specs.declared.stop.Stop.{Stop}
use Rattle.command_core.specs.declared.stop.Stop.TheVariants as stop

-- no graph was read
pub read_stops : (at : Slot) (profile : Profile) (limit : ℕ) (file : Option (List ℕ)) (before now : View) (why : ReadFail) → IfSome file (λ bytes. Refuses profile limit bytes why) →
    (why ≡ fail.Fault → Rose before.read_faults now.read_faults) → IsStop (IsGraphStop at profile limit file) before now (stop_of_read at why)
read_stops at profile limit file before now (fail.Text p) told rose = (refl, told)
read_stops at profile limit file before now (fail.Header f) told rose = (refl, told)
read_stops at profile limit file before now (fail.Graph f) told rose = (refl, told)
read_stops at profile limit file before now fail.Fault told rose = rose refl
read_stops at profile limit file before now fail.TooLong told rose = (refl, told)
read_stops at profile limit file before now fail.Memory told rose = tt

-- ---- lengths

module _ (at : Slot) (P : Type 0) where
  pub IsLong-is : (why : Stop) → IsLong at P why → (why ≡ stop.TooLong at) × P
  IsLong-is (stop.Graph slot why) h = absurd h
  IsLong-is (stop.TooLong slot) h = (ap stop.TooLong h.0, h.1)
  IsLong-is stop.ReadFault h = absurd h
  IsLong-is stop.WriteFault h = absurd h
  IsLong-is stop.Memory h = absurd h

  pub IsLong-weaker : (Q : Type 0) → (P → Q) → (why : Stop) → IsLong at P why → IsLong at Q why
  IsLong-weaker Q more why h = let k = IsLong-is why h in subst (IsLong at Q) (sym k.0) (refl, more k.1)

  pub IsLong-about : (why : Stop) → IsLong at P why → IsAbout at why
  IsLong-about why h = subst (IsAbout at) (sym (IsLong-is why h).0) refl

-- ---- where stops come

pub IsGraphStop-about : (at : Slot) (profile : Profile) (limit : ℕ) (file : Option (List ℕ)) (why : Stop) → IsGraphStop at profile limit file why → IsAbout at why
IsGraphStop-about at profile limit file (stop.Graph slot why) h = h.0
IsGraphStop-about at profile limit file (stop.TooLong slot) h = h.0
IsGraphStop-about at profile limit file stop.ReadFault h = absurd h
IsGraphStop-about at profile limit file stop.WriteFault h = absurd h
IsGraphStop-about at profile limit file stop.Memory h = absurd h

module _ (P : Stop → Type 0) (before now : View) where
  -- a weaker cause, since an earlier time
  pub IsStop-weaker : (Q : Stop → Type 0) (first : View) → ((why : Stop) → P why → Q why) → first.read_faults ≤ before.read_faults → (why : Stop) → IsStop P before now why → IsStop Q first now why
  IsStop-weaker Q first more earlier (stop.Graph at why) h = more (stop.Graph at why) h
  IsStop-weaker Q first more earlier (stop.TooLong at) h = more (stop.TooLong at) h
  IsStop-weaker Q first more earlier stop.ReadFault h = omega (arith, earlier, h)
  IsStop-weaker Q first more earlier stop.WriteFault h = absurd h
  IsStop-weaker Q first more earlier stop.Memory h = tt

  -- what is due, or what interrupts
  pub due_or_interrupts : (why : Stop) → IsStop P before now why → P why ⊎ Interrupts before now why
  due_or_interrupts (stop.Graph at why) h = inl h
  due_or_interrupts (stop.TooLong at) h = inl h
  due_or_interrupts stop.ReadFault h = inr h
  due_or_interrupts stop.WriteFault h = absurd h
  due_or_interrupts stop.Memory h = inr tt

  -- The file in this slot has the cause, and it was opened, and those before it.
  pub opens_up_to : (place : Slot → ℕ) (all : ℕ) (at : Slot) → ((why : Stop) → P why → IsAbout at why) → place at ≤ all → (first : View) → OpensFiles (place at) first now →
      (why : Stop) → IsStop P before now why → OpensUpTo place all why first now
  opens_up_to place all at about few first opened (stop.Graph slot why) h = subst (λ s. OpensFiles (place s) first now) (sym (about (stop.Graph slot why) h)) opened
  opens_up_to place all at about few first opened (stop.TooLong slot) h = subst (λ s. OpensFiles (place s) first now) (sym (about (stop.TooLong slot) h)) opened
  opens_up_to place all at about few first opened stop.ReadFault h = (place at, few, opened)
  opens_up_to place all at about few first opened stop.WriteFault h = absurd h
  opens_up_to place all at about few first opened stop.Memory h = (place at, few, opened)

  -- an answer is given that has its cause, where that is just one
  pub stop_gives : {A : Type 0} (stopped : Stop → A) (due : A) (why : Stop) → (P why → stopped why ≡ due) → IsStop P before now why → GivesDue stopped before now due (stopped why)
  stop_gives stopped due why one h = ⊎_elim (λ p. inl (one p)) (λ k. inr (why, refl, k)) (due_or_interrupts why h)

  -- just one file has the cause
  pub one_file : (at there : Slot) → ((why : Stop) → P why → IsAbout at why) → (why : Stop) → IsStop P before now why → IsAbout there why → at ≡ there
  one_file at there about (stop.Graph slot why) h k = sym (about (stop.Graph slot why) h) ∙ k
  one_file at there about (stop.TooLong slot) h k = sym (about (stop.TooLong slot) h) ∙ k
  one_file at there about stop.ReadFault h k = absurd k
  one_file at there about stop.WriteFault h k = absurd k
  one_file at there about stop.Memory h k = absurd k
