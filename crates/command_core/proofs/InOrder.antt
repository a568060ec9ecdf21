-- Of files in an order just one answer is due, and what has its cause is that answer, or a stop that interrupts.
use Rattle.std.proofs.Common.{◌≡◌, ℕ, List, Option, Some, None, refl, sym, subst, ◌∙◌, inl, inr, ⊎_elim}
use Rattle.std.specs.Prelude.{◌⊎◌, IfSome}
use Rattle.aiger_reader.specs.Refusals.{SpellsWithin}
use Rattle.command_core.specs.InOrder.{IsOneDue, IsSaidOf, Last, OverGraph, Then}
use Rattle.command_core.specs.Stopping.{GivesDue, IsGraphStop, IsLong, IsStop}
use Rattle.command_core.specs.declared.stop.Stop.{Stop}
use Rattle.command_core.specs.declared.stop.Stop.TheVariants as stop
use Rattle.command_core.proofs.GraphStops.{graph_exact}
use Rattle.command_core.proofs.Stops.{IsLong-is, stop_gives}
use Rattle.graph_core.specs.declared.profile.Profile.{Profile}
use Rattle.graph_core.specs.Graph.{Aig}
use Rattle.graph_core.specs.Text.JudgedLines.{IsExact, Unless}
use Rattle.graph_core.proofs.OfTexts.CallerLemmas.{exact_map, one_graph}
use Rattle.mv_desk.specs.View.{View}
use Rattle.mv_desk.specs.declared.slot.Slot.{Slot}

-- ---- one answer is due

-- Whatever a file gives, the rest is the same.
module _ {A Answer : Type 0} (Gives : A → Type 0) (Refuses : Answer → Type 0) (Rest : A → Answer → Type 0) where
  pub one_then : IsExact ((a : A) × Gives a) Refuses → ((a b : A) → Gives a → Gives b → (answer : Answer) → Rest a answer → Rest b answer) →
      ((a : A) → Gives a → IsOneDue (Rest a)) → IsOneDue (Then Gives Refuses Rest)
  one_then exact same rest = record {
    some = ⊎_elim (λ g. ((rest g.0 g.1).some.0, inr (g.0, g.1, (rest g.0 g.1).some.1))) (λ r. (r.0, inl r.1)) exact.decided;
    one = one;
  }
    where
      one : (due other : Answer) → Then Gives Refuses Rest due → Then Gives Refuses Rest other → due ≡ other
      one due other (inl h) (inl k) = exact.one due other h k
      one due other (inl h) (inr k) = absurd (exact.not_both due (k.0, k.1) h)
      one due other (inr h) (inl k) = absurd (exact.not_both other (h.0, h.1) k)
      one due other (inr h) (inr k) = (rest h.0 h.1).one due other h.2 (same k.0 h.0 k.1 h.1 other k.2)

pub one_last : {Answer Good : Type 0} {Refuses : Answer → Type 0} (accepted : Answer) → IsExact Good Refuses → IsOneDue (Last Good Refuses accepted)
one_last accepted exact = record {
  some = ⊎_elim (λ good. (accepted, inr (good, refl))) (λ r. (r.0, inl r.1)) exact.decided;
  one = λ due other h k. ⊎_elim (λ x. ⊎_elim (λ y. exact.one due other x y) (λ y. absurd (exact.not_both due y.0 x)) k)
      (λ x. ⊎_elim (λ y. absurd (exact.not_both other x.0 y)) (λ y. x.1 ∙ sym y.1) k) h;
}

pub one_unless : {Answer ok fails : Type 0} {later : Answer → Type 0} (cause : Answer) → ok ⊎ fails → (fails → ok → ⊥) → (ok → IsOneDue later) → IsOneDue (Unless ok fails cause later)
one_unless cause decided apart rest = record {
  some = ⊎_elim (λ h. ((rest h).some.0, inr (h, (rest h).some.1))) (λ n. (cause, inl (n, refl))) decided;
  one = λ due other h k. ⊎_elim (λ x. ⊎_elim (λ y. x.1 ∙ sym y.1) (λ y. absurd (apart x.0 y.0)) k)
      (λ x. ⊎_elim (λ y. absurd (apart y.0 x.0)) (λ y. (rest x.0).one due other x.1 y.1) k) h;
}

pub one_answer : {Answer : Type 0} (answer : Answer) → IsOneDue (λ given. given ≡ answer)
one_answer answer = record { some = (answer, refl); one = λ due other h k. h ∙ sym k }

module _ {Answer : Type 0} (stopped : Stop → Answer) (at : Slot) (profile : Profile) (limit : ℕ) (file : List ℕ) (Rest : Aig → Answer → Type 0) where
  pub one_over_graph : ((g : Aig) → SpellsWithin profile limit file g → IsOneDue (Rest g)) → IsOneDue (OverGraph stopped at profile limit (Some file) Rest)
  one_over_graph rest =
      one_then (λ (g : Aig). SpellsWithin profile limit file g) (IsSaidOf (IsGraphStop at profile limit (Some file)) stopped) Rest (exact_map stopped (graph_exact profile limit file at))
      (λ g h s t answer r. subst (λ (x : Aig). Rest x answer) (one_graph profile file g h s.spells t.spells) r) rest

-- ---- what has its cause is the answer that is due

-- of a text that is told, or of none
pub some_number : (text : Option (List ℕ)) (P : List ℕ → ℕ → Type 0) → IfSome text (λ bytes. (n : ℕ) × P bytes n) → (n : ℕ) × IfSome text (λ bytes. P bytes n)
some_number None P h = (0, tt)
some_number (Some bytes) P h = h

-- a length is due
pub IsLong-due : (at : Slot) (P : Type 0) (Due : Stop → Type 0) → (P → Due (stop.TooLong at)) → (why : Stop) → IsLong at P why → Due why
IsLong-due at P Due long why h = let k = IsLong-is at P why h in subst Due (sym k.0) (long k.1)

module _ {Answer : Type 0} (stopped : Stop → Answer) (Due : Answer → Type 0) (is_one : IsOneDue Due) (before now : View) where
  pub caused_is_due : (given : Answer) → Due given → (due : Answer) → Due due → GivesDue stopped before now due given
  caused_is_due given h due k = inl (is_one.one given due h k)

  -- or a stop that interrupts
  pub stopped_is_due : (why : Stop) → IsStop (λ w. Due (stopped w)) before now why → (due : Answer) → Due due → GivesDue stopped before now due (stopped why)
  stopped_is_due why h due k = stop_gives (λ w. Due (stopped w)) before now stopped due why (λ p. is_one.one (stopped why) due p k) h
