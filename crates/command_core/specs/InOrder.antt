-- Files that are read in an order: the answer is that of the first one that is refused, or of the last.
use Rattle.std.specs.Prelude.{◌≡◌, ◌⊎◌, ℕ, List, IfSome}
use Rattle.std.specs.declared.option.Option.{Option}
use Rattle.aiger_reader.specs.Refusals.{SpellsWithin}
use Rattle.command_core.specs.Stopping.{IsGraphStop}
use Rattle.command_core.specs.declared.stop.Stop.{Stop}
use Rattle.graph_core.specs.declared.profile.Profile.{Profile}
use Rattle.graph_core.specs.Graph.{Aig}
use Rattle.mv_desk.specs.declared.slot.Slot.{Slot}

-- there is a cause, and this is said of it
abbrev pub IsSaidOf : {Cause Answer : Type 0} → (Cause → Type 0) → (Cause → Answer) → Answer → Type 0
IsSaidOf {Cause} Has said answer = (cause : Cause) × Has cause × (answer ≡ said cause)

-- the first file's refusal; or, over what it gives, the answer of the rest
abbrev pub Then : {A Answer : Type 0} → (A → Type 0) → (Answer → Type 0) → (A → Answer → Type 0) → Answer → Type 0
Then {A} Gives Refuses Rest answer = Refuses answer ⊎ ((a : A) × Gives a × Rest a answer)

-- the last file's refusal; or else this answer, where it is good
abbrev pub Last : {Answer : Type 0} → Type 0 → (Answer → Type 0) → Answer → Answer → Type 0
Last Good Refuses accepted answer = Refuses answer ⊎ (Good × (answer ≡ accepted))

-- A graph file spells no graph within its limit, where it is told; or, over the graph that it spells, the answer of the rest.
abbrev pub OverGraph : {Answer : Type 0} → (Stop → Answer) → Slot → Profile → ℕ → Option (List ℕ) → (Aig → Answer → Type 0) → Answer → Type 0
OverGraph stopped at profile limit file Rest =
    Then (λ (g : Aig). IfSome file (λ bytes. SpellsWithin profile limit bytes g)) (IsSaidOf (IsGraphStop at profile limit file) stopped) Rest

-- Of all answers just one is due.
pub record IsOneDue {Answer : Type 0} (Due : Answer → Type 0) : Type 0 where
  pub some : (due : Answer) × Due due
  pub one : (due other : Answer) → Due due → Due other → due ≡ other
