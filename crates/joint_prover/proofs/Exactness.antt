-- Which verdict a graph file gets: the one that is due, but for a fault or out of memory; and where the budget is enough.
use Rattle.std.proofs.Common.{◌≡◌, ℕ, ◌%◌, Bool, List, refl, sym, ap, ap₂, subst, ◌∙◌, arith, inl, inr, ⊎_elim, take}
use Rattle.std.specs.Prelude.{◌⊎◌, IfSome}
use Rattle.std.specs.declared.option.Option.{Option}
use Rattle.aiger_reader.specs.Refusals.{SpellsWithin}
use Rattle.command_core.specs.Stopping.{GivesDue, Interrupts, IsGraphStop, IsStop}
use Rattle.command_core.specs.declared.stop.Stop.{Stop}
use Rattle.command_core.specs.declared.stop.Stop.TheVariants as stop
use Rattle.command_core.proofs.CallerLemmas.{due_or_interrupts, graph_exact, stop_gives}
use Rattle.frontier_core.proofs.CallerLemmas.{difference_is_of_numbers, least_difference_is_one}
use Rattle.frontier_core.specs.LeastDifference.{IsDifferenceAt}
use Rattle.graph_core.specs.Graph.{Aig, IsDefinedOnce}
use Rattle.graph_core.specs.Graph.Operands.{Does, HasShapeFor, claimed_at, inputs_at, output_modulus, profile_of, sides_for, value_at, Sides}
use Rattle.graph_core.specs.declared.claim.Claim.{Claim}
use Rattle.graph_core.specs.declared.numbers.Numbers.{Numbers}
use Rattle.graph_core.specs.declared.profile.Profile.{Profile}
use Rattle.graph_core.specs.declared.order.Order.TheVariants.{Separate}
use Rattle.graph_core.specs.declared.sign.Sign.TheVariants.{Unsigned}
use Rattle.graph_core.proofs.OfGraphs.CallerLemmas.{product_doing}
use Rattle.graph_core.proofs.OfAiger.CallerLemmas.{shape_for, spelled_shape, well_formed}
use Rattle.graph_core.proofs.OfTexts.CallerLemmas.{one_graph}
use Rattle.command_core.specs.Files.{HasGraph, Files}
use Rattle.mv_desk.specs.View.{View, bytes_under}
use Rattle.mv_desk.specs.declared.slot.Slot.TheVariants as slot
use Rattle.command_core.specs.declared.task.Task.{Task}
use Rattle.joint_prover.specs.declared.difference.Difference.{Difference}
use Rattle.joint_prover.specs.declared.verdict.Verdict.{Verdict}
use Rattle.joint_prover.specs.declared.verdict.Verdict.TheVariants.{Proved, Wrong, Undecided, Stopped}
use Rattle.joint_prover.specs.Tries.{IsWithinBudget, AreTried, IsAbove}
use Rattle.joint_prover.specs.Verdicts.{HasFewOnes, HaveManyOnes, IsFirstAbove, IsVerdict, IsVerdictDue, IsWrong, VerdictsAreExact, HasNote, judgement}
use Rattle.std.specs.declared.option.Option.TheVariants.{None, Some}
use Rattle.enough_budget.specs.Budgets.{PassesBySlices}
use Rattle.enough_budget.proofs.MadePlans.{made_budget_is_enough}
use Rattle.graph_maker.proofs.OperandOrder.{order_of_operands_is_free}
use Rattle.frontier_core.specs.Frontier.{frontier_value}
use Rattle.frontier_core.specs.Plan.{Taken, nothing, taken}
use Rattle.graph_core.specs.Graph.Extended.{modulus, Extended, without_cut}
use Rattle.algebra_core.specs.NormalForm.{HasSize}
use Rattle.graph_maker.specs.Made.{IsMadeMultiplier, made}
use Rattle.graph_maker.specs.declared.adder.Adder.TheVariants.{Ripple}
use Rattle.graph_maker.proofs.MadeMultiplies.{made_multiplies}
use Rattle.joint_prover.specs.declared.replacement.Replacement.{Replacement}
use Rattle.joint_prover.specs.declared.note.Note.{Note}
use Rattle.joint_prover.specs.declared.verdict.Tried.{Tried}
use Rattle.joint_prover.specs.Budgets.{EnoughIsProved, IsEnough}
use Rattle.mv_desk.specs.declared.limits.Limits.{Limits}
use Rattle.joint_prover.specs.Notes.{replacement_of}

-- ---- a graph that is wrong

module _ (g : Aig) (claim : Claim) (d : Difference) where
  does_or_wrong : Does claim g → IsWrong g claim d → ⊥
  does_or_wrong does wrong = wrong.least.difference.differs (does d.numbers wrong.least.difference.range)

  -- the values of the inputs at which it is
  differs_there : HasShapeFor claim.widths g → IsDefinedOnce g → IsWrong g claim d → IsDifferenceAt g (sides_for claim g) (inputs_at (sides_for claim g) d.numbers)
  differs_there shape once wrong = ((difference_is_of_numbers g claim d.numbers shape once wrong.least.difference.range).1 wrong.least).difference

abbrev told_of : Numbers → Bool → ℕ → ℕ → Difference
told_of x add value claimed = record { numbers = x; has_addend = add; value = value; claimed = claimed }

-- what is told of the same numbers is the same
same_told : (g : Aig) (claim : Claim) (d e : Difference) → d.numbers ≡ e.numbers → IsWrong g claim d → IsWrong g claim e → d ≡ e
same_told g claim d e same one other =
    let s = sides_for claim g in
    let m = output_modulus g in
    let value : d.value ≡ e.value = one.valued.value_is ∙ ap (value_at g s) same ∙ sym other.valued.value_is in
    let claimed : d.claimed ≡ e.claimed = one.valued.claimed_is ∙ ap (λ z. claimed_at m s z % m) same ∙ sym other.valued.claimed_is in
    ap (λ x. told_of x d.has_addend d.value d.claimed) same ∙
    ap (λ add. told_of e.numbers add d.value d.claimed) (sym one.valued.addend ∙ other.valued.addend) ∙ ap₂ (told_of e.numbers e.has_addend) value claimed

-- ---- two verdicts on a file

module _ (limit : ℕ) (task : Task) (file : List ℕ) where
  abbrev claim : Claim
  claim = task.claim

  abbrev profile : Profile
  profile = profile_of task.claim.widths

  -- a graph of the file, of which something holds
  abbrev pub Spelled : (Aig → Type 0) → Type 0
  Spelled P = (g : Aig) × SpellsWithin profile limit file g × P g

  together : (P Q : Aig → Type 0) → Spelled P → Spelled Q → Spelled (λ g. P g × Q g)
  together P Q h k = (h.0, h.1, (h.2, subst Q (one_graph profile file k.0 h.0 k.1.spells h.1.spells) k.2))

  shape_there : (g : Aig) → SpellsWithin profile limit file g → HasShapeFor claim.widths g
  shape_there g s = shape_for claim.widths g (spelled_shape profile file g s.spells)

  once_there : (g : Aig) → SpellsWithin profile limit file g → IsDefinedOnce g
  once_there g s = (well_formed profile file g s.spells).defined_once

  pub right_or_wrong : (d : Difference) → Spelled (Does claim) → Spelled (λ g. IsWrong g claim d) → ⊥
  right_or_wrong d h k = let both = together (Does claim) (λ g. IsWrong g claim d) h k in does_or_wrong both.0 claim d both.2.0 both.2.1

  within_or_above : (t n : ℕ) → Spelled (λ g. IsWithinBudget g claim task.budget) → Spelled (λ g. IsFirstAbove g claim task.budget t n) → ⊥
  within_or_above t n h k =
      let both = together (λ g. IsWithinBudget g claim task.budget) (λ g. IsFirstAbove g claim task.budget t n) h k in
      let first = both.2.1 in
      let low = both.2.0 t n first.size in
      let high = first.above in
      omega arith

  few_or_many : (d : Difference) → Spelled (λ g. HasFewOnes (inputs_at (sides_for claim g) d.numbers) × IsWrong g claim d) → Spelled (λ g. HaveManyOnes g claim) → ⊥
  few_or_many d h k =
      let both = together (λ g. HasFewOnes (inputs_at (sides_for claim g) d.numbers) × IsWrong g claim d) (λ g. HaveManyOnes g claim) h k in
      let g = both.0 in
      let told = both.2.0 in
      both.2.1 (inputs_at (sides_for claim g) d.numbers) (differs_there g claim d (shape_there g both.1) (once_there g both.1) told.1) told.0

  one_wrong : (d e : Difference) → Spelled (λ g. IsWrong g claim d) → Spelled (λ g. IsWrong g claim e) → Wrong e ≡ Wrong d
  one_wrong d e h k =
      let both = together (λ g. IsWrong g claim d) (λ g. IsWrong g claim e) h k in
      let g = both.0 in
      ap Wrong (same_told g claim e d (least_difference_is_one.1 g (sides_for claim g) d.numbers e.numbers both.2.0.least both.2.1.least) both.2.1 both.2.0)

  -- what the verdict says of the file
  module _ (before after : View) where
    abbrev Says : Verdict → Type 0
    Says (Proved long) = Spelled (Does claim)
    Says (Wrong d) = Spelled (λ g. IsWrong g claim d)
    Says (Undecided tried t n seen) = Spelled (λ g. IsFirstAbove g claim task.budget t n × HaveManyOnes g claim)
    Says (Stopped why) = IsGraphStop slot.Graph profile limit (Some file) why ⊎ Interrupts before after why

    never_stopped : (g : Aig) (why : Stop) → SpellsWithin profile limit file g → IsGraphStop slot.Graph profile limit (Some file) why → ⊥
    never_stopped g why s d = (graph_exact profile limit file slot.Graph).not_both why (g, s) d

    exact : (given due : Verdict) → Says given → IsVerdictDue limit task file due → GivesDue Stopped before after due (judgement given)
    exact given (Undecided others u m other) h d = absurd d
    exact given (Proved (Some at)) h d = absurd d
    exact (Proved long) (Proved None) h d = inl refl
    exact (Proved long) (Wrong e) h d = absurd (right_or_wrong e h (d.0, d.1, d.3))
    exact (Proved long) (Stopped other) h d = absurd (never_stopped h.0 other h.1 d)
    exact (Wrong e) (Proved None) h d = absurd (right_or_wrong e (d.0, d.1, d.3) h)
    exact (Wrong e) (Wrong f) h d = inl (one_wrong f e (d.0, d.1, d.3) h)
    exact (Wrong e) (Stopped other) h d = absurd (never_stopped h.0 other h.1 d)
    exact (Undecided tried t n seen) (Proved None) h d = absurd (within_or_above t n (d.0, d.1, d.2) (h.0, h.1, h.2.0))
    exact (Undecided tried t n seen) (Wrong e) h d =
        absurd (⊎_elim (λ within. within_or_above t n (d.0, d.1, within) (h.0, h.1, h.2.0)) (λ few. few_or_many e (d.0, d.1, (few, d.3)) (h.0, h.1, h.2.1)) d.2)
    exact (Undecided tried t n seen) (Stopped other) h d = absurd (never_stopped h.0 other h.1 d)
    exact (Stopped why) due (inr interrupts) d = inr (why, refl, interrupts)
    exact (Stopped why) (Proved None) (inl h) d = absurd (never_stopped d.0 why d.1 h)
    exact (Stopped why) (Wrong e) (inl h) d = absurd (never_stopped d.0 why d.1 h)
    exact (Stopped why) (Stopped other) (inl h) d = inl (ap Stopped ((graph_exact profile limit file slot.Graph).one why other h d))

  -- where the file is told
  pub spelled : (given : Option (List ℕ)) (P : Aig → Type 0) → given ≡ Some file → HasGraph profile limit given P → Spelled P
  spelled given P told h = (h.0, subst (λ o. IfSome o (λ bytes. SpellsWithin profile limit bytes h.0)) told h.1, h.2)

pub verdicts_are_exact : VerdictsAreExact
verdicts_are_exact limits task files before after file due given noted told d h = exact limits.graph task file before after given due (says given h) d
  where
    of_stop : (why : Stop) → IsStop (IsGraphStop slot.Graph (profile_of task.claim.widths) limits.graph (bytes_under before files.graph)) before after why →
        Says limits.graph task file before after (Stopped why)
    of_stop why h = due_or_interrupts (IsGraphStop slot.Graph (profile_of task.claim.widths) limits.graph (Some file)) before after why
        (subst (λ o. IsStop (IsGraphStop slot.Graph (profile_of task.claim.widths) limits.graph o) before after why) told h)

    says : (v : Verdict) → IsVerdict limits task files before after v noted → Says limits.graph task file before after v
    says (Proved long) h = let s = spelled limits.graph task file _ _ told h in (s.0, s.1, s.2.0)
    says (Wrong d) h = let s = spelled limits.graph task file _ _ told h.0 in (s.0, s.1, s.2.0)
    says (Undecided tried t n seen) h = let s = spelled limits.graph task file _ _ told h.0 in (s.0, s.1, (s.2.0, s.2.2))
    says (Stopped stop.WriteFault) h = inr h.0
    says (Stopped (stop.Graph at why)) h = of_stop (stop.Graph at why) h.0
    says (Stopped (stop.TooLong at)) h = of_stop (stop.TooLong at) h.0
    says (Stopped stop.ReadFault) h = of_stop stop.ReadFault h.0
    says (Stopped stop.Memory) h = of_stop stop.Memory h.0

-- ---- enough budget

-- ---- a slice plan over the graph alone was tried

module _ (e : Extended) (s : Sides) (budget : ℕ) where
  pub passes : (tried : Tried) → IsAbove e s budget tried → PassesBySlices e s budget
  passes tried h =
      let p = h.of_slices in
      let here : Taken = taken nothing (take p.count p.steps) in
      record {
        steps = p.steps;
        slices = p.slices;
        step = p.count;
        size = tried.size;
        above = h.above;
        has = subst (λ ks. HasSize (modulus e) (frontier_value e s ks here.eliminated) tried.size) p.columns
            (subst (λ vs. HasSize (modulus e) (frontier_value e s tried.columns.items vs) tried.size) p.gates h.size);
      }

module _ (g : Aig) (claim : Claim) (budget : ℕ) where
  pub tried_passes : (used : Option Replacement) (tried : List Tried) → AreTried g claim budget used tried → PassesBySlices (without_cut g) (sides_for claim g) budget
  tried_passes None tried h = passes (without_cut g) (sides_for claim g) budget h.0 h.2.above
  tried_passes (Some r) tried h = passes (without_cut g) (sides_for claim g) budget h.1 h.4.above

-- ---- the verdict

module _ (limits : Limits) (task : Task) (file : List ℕ) (h : IsEnough limits.graph task file) where
  law : IsMadeMultiplier h.bits (made h.kind h.bits Ripple)
  law = made_multiplies h.kind h.bits Ripple h.some

  does : Does task.claim h.graph
  does = (order_of_operands_is_free (made h.kind h.bits Ripple) h.graph task.claim h.same).0
      (subst (λ k. Does k (made h.kind h.bits Ripple)) (sym h.separate) (product_doing (made h.kind h.bits Ripple) Separate Unsigned law.shape law.multiplies))

  spells : SpellsWithin (profile_of task.claim.widths) limits.graph file h.graph
  spells = subst (λ (k : Claim). SpellsWithin (profile_of k.widths) limits.graph file h.graph) (sym h.separate) h.spells

  never_passes : PassesBySlices (without_cut h.graph) (sides_for task.claim h.graph) task.budget → ⊥
  never_passes p =
      made_budget_is_enough h.kind h.bits h.graph task.budget h.some h.same h.high (subst (λ k. PassesBySlices (without_cut h.graph) (sides_for k h.graph) task.budget) h.separate p)

  never_tried : (tried : List Tried) (noted : Option Note) → HasNote h.graph task noted (λ used. AreTried h.graph task.claim task.budget used tried) → ⊥
  never_tried tried None k = absurd k
  never_tried tried (Some n) k = never_passes (tried_passes h.graph task.claim task.budget (replacement_of n) tried k.1)

  module _ (files : Files) (a b : View) (told : bytes_under a files.graph ≡ Some file) where
    stops_or_not : (why : Stop) → IsStop (IsGraphStop slot.Graph (profile_of task.claim.widths) limits.graph (bytes_under a files.graph)) a b why → GivesDue Stopped a b (Proved None) (Stopped why)
    stops_or_not why k = stop_gives (IsGraphStop slot.Graph (profile_of task.claim.widths) limits.graph (Some file)) a b Stopped (Proved None) why
        (λ due. absurd ((graph_exact (profile_of task.claim.widths) limits.graph file slot.Graph).not_both why (h.graph, spells) due))
        (subst (λ o. IsStop (IsGraphStop slot.Graph (profile_of task.claim.widths) limits.graph o) a b why) told k)

    pub proved_or_not : (given : Verdict) (noted : Option Note) → IsVerdict limits task files a b given noted → GivesDue Stopped a b (Proved None) (judgement given)
    proved_or_not (Proved long) noted k = inl refl
    proved_or_not (Wrong d) noted k =
        let s = spelled limits.graph task file _ _ told k.0 in absurd (right_or_wrong limits.graph task file d (h.graph, spells, does) (s.0, s.1, s.2.0))
    proved_or_not (Undecided tried t n seen) noted k =
        let s = spelled limits.graph task file _ _ told k.0 in
        let same = one_graph (profile_of task.claim.widths) file s.0 h.graph s.1.spells spells.spells in
        absurd (never_tried tried.items noted (subst (λ g. HasNote g task noted (λ used. AreTried g task.claim task.budget used tried.items)) same s.2.1))
    proved_or_not (Stopped stop.WriteFault) noted k = inr (stop.WriteFault, refl, k.0)
    proved_or_not (Stopped (stop.Graph at why)) noted k = stops_or_not (stop.Graph at why) k.0
    proved_or_not (Stopped (stop.TooLong at)) noted k = stops_or_not (stop.TooLong at) k.0
    proved_or_not (Stopped stop.ReadFault) noted k = stops_or_not stop.ReadFault k.0
    proved_or_not (Stopped stop.Memory) noted k = stops_or_not stop.Memory k.0

pub enough_is_proved : EnoughIsProved
enough_is_proved limits task files before after given noted h = go (bytes_under before files.graph) refl
  where
    go : (told : Option (List ℕ)) → bytes_under before files.graph ≡ told → IfSome told (λ file. IsEnough limits.graph task file → GivesDue Stopped before after (Proved None) (judgement given))
    go None same = tt
    go (Some file) same = λ enough. proved_or_not limits task file enough files before after same given noted h
