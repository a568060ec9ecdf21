-- What `verify` and `check` answer over a made graph that is held in memory.
use Rattle.std.proofs.Common.{◌≡◌, ◌≢◌, ℕ, ◌-◌, ◌^◌, ◌≤◌, List, length, Option, Some, refl, sym, ap, subst, ◌∙◌, arith, inl, inr, ⊎_elim}
use Rattle.std.specs.Prelude.{IfSome, IsSome, IsSomeAnd, ⊤, [], option_map, unwrap_or}
use Rattle.aiger_reader.specs.Refusals.{SpellsWithin}
use Rattle.command_core.specs.Stopping.{GivesDue, Interrupts, IsGraphStop, IsStop}
use Rattle.command_core.specs.declared.stop.Stop.{Stop}
use Rattle.command_core.specs.declared.stop.Stop.TheVariants as stop
use Rattle.command_core.proofs.CallerLemmas.{due_or_interrupts, graph_exact}
use Rattle.graph_core.specs.Aiger.{Spells}
use Rattle.graph_core.specs.Aiger.Writing.{ascii_text}
use Rattle.algebra_core.specs.AlgebraLines.{Premises}
use Rattle.algebra_core.specs.Certificates.{IsLawfulAlgebra}
use Rattle.graph_core.specs.Graph.{Aig}
use Rattle.graph_core.specs.Graph.Operands.{Does, product_under, sides_of}
use Rattle.graph_core.specs.declared.order.Order.TheVariants.{Separate}
use Rattle.graph_core.specs.declared.profile.Profile.TheVariants.{Multiplier as TwoOperands}
use Rattle.graph_maker.specs.declared.design.Design.TheVariants.{Multiplier}
use Rattle.graph_core.proofs.OfTexts.CallerLemmas.{one_graph}
use Rattle.pair_core.specs.Certificates.{IsLawfulPair}
use Rattle.pair_core.specs.ClauseFiles.{ArePremisesOf, GivesPremises}
use Rattle.command_core.specs.Files.{HasGraph, texts_of}
use Rattle.joint_checker.specs.Outcome.{IsDue}
use Rattle.joint_checker.specs.declared.checked.Checked.{Checked}
use Rattle.joint_checker.specs.declared.checked.Checked.TheVariants as checked
use Rattle.joint_checker.specs.declared.checked.Refusal.{Refusal}
use Rattle.joint_prover.specs.Notes.{IsNote, replacement_of}
use Rattle.joint_prover.specs.Pairs.{IsPairFor}
use Rattle.joint_prover.specs.Verdicts.{HasNote, IsVerdict, IsWrong}
use Rattle.command_core.specs.Written.{ReadsGraph, WritesFile, WritesPair}
use Rattle.joint_prover.specs.declared.note.Note.{Note}
use Rattle.joint_prover.specs.declared.verdict.Tried.{Tried}
use Rattle.joint_prover.specs.declared.difference.Difference.{Difference}
use Rattle.joint_prover.specs.declared.verdict.Verdict.{Verdict}
use Rattle.joint_prover.specs.declared.verdict.Verdict.TheVariants as verdict
use Rattle.joint_prover.proofs.Telling.{pair_is_lawful}
use Rattle.pair_limits.specs.TooLong.{IsFirstTooLong}
use Rattle.mv_desk.specs.HonestDesk.{view_of}
use Rattle.mv_desk.specs.View.{View, Rose, bytes_under}
use Rattle.mv_desk.specs.declared.memory.honest_desk.HonestDesk.{HonestDesk}
use Rattle.mv_desk.specs.declared.slot.Slot.{Slot}
use Rattle.mv_desk.specs.declared.slot.Slot.TheVariants as slot
use Rattle.mv_text.specs.LineReading.{lengths_of}
use Rattle.joint_prover.specs.declared.replacement.Replacement.{Replacement}
use Rattle.std.specs.declared.vec.Vec.{Vec}
use Rattle.std.specs.Global.{Global}
use Rattle.verdict_program.specs.declared.made.Made.TheVariants as answered
use Rattle.verdict_program.specs.declared.sample.Sample.{Sample}
use Rattle.verdict_program.specs.Making as making
use Rattle.verdict_program.specs.Making.{sample_graph, text_for}
use Rattle.verdict_program.specs.Runs.{SpellsAsClaimed}
use Rattle.verdict_program.specs.Trial.{HoldsGraph, HoldsTrial, IsAcceptedWith, IsOfMemory, OfMade, no_limits, trial_files, trial_task}
use Rattle.verdict_program.proofs.MakingLemmas.{design_spells}
use Rattle.verdict_program.proofs.ProductClaims.{product_is_claimed}
use Rattle.verdict_program.proofs.MemoryFiles.{TellsFiles, algebra_is_held, clauses_are_held, file_is_held, graph_stays, honest_tells, is_written_to, within_no_limits}

-- no count of read faults rose
not_rose : (before now : ℕ) → now ≡ 0 → Rose before now → ⊥
not_rose before now none rose = omega (arith, none, rose)

-- so what interrupts is of memory
interrupts_in_memory : (a b : View) → b.read_faults ≡ 0 → (why : Stop) → Interrupts a b why → IsOfMemory why
interrupts_in_memory a b none (stop.Graph at fail) h = absurd h
interrupts_in_memory a b none stop.ReadFault h = absurd (not_rose a.read_faults b.read_faults none h)
interrupts_in_memory a b none stop.WriteFault h = tt
interrupts_in_memory a b none (stop.TooLong at) h = absurd h
interrupts_in_memory a b none stop.Memory h = tt

-- the note, with what else holds of its cut
note_of_some : (g : Aig) (n : Note) (noted : Option Note) (P : Option Replacement → Type 0) → noted ≡ Some n → HasNote g trial_task noted P →
    IsNote g trial_task.claim trial_task.conflicts n × P (replacement_of n)
note_of_some g n noted P same h = subst (λ o. IsSomeAnd o (λ m. IsNote g trial_task.claim trial_task.conflicts m × P (replacement_of m))) same h

-- ---- the graph file

-- what was made and written is held
pub made_is_held : (d e : HonestDesk) (sample : Sample) (g : Aig) (name : List ℕ) → name ≡ trial_files.graph → g ≡ sample_graph sample →
    WritesFile slot.Graph name (text_for name g) (view_of d) (view_of e) → HoldsGraph (view_of e) sample
made_is_held d e sample g name same_name same_graph w =
    let at = subst (λ h. WritesFile slot.Graph trial_files.graph (text_for trial_files.graph h) (view_of d) (view_of e)) same_graph
    (subst (λ n. WritesFile slot.Graph n (text_for n g) (view_of d) (view_of e)) same_name w) in
    let file : WritesFile slot.Graph trial_files.graph (ascii_text (sample_graph sample)) (view_of d) (view_of e) =
    record { created = at.created; creates = at.creates; writes = at.writes } in
    let opened = is_written_to slot.Graph trial_files.graph (ascii_text (sample_graph sample)) (view_of d) (view_of e) file in
    ap (option_map (λ x. unwrap_or x []))
    (file_is_held slot.Graph trial_files.graph (ascii_text (sample_graph sample)) (view_of d) (view_of e) file ((honest_tells e).named slot.Graph opened) ((honest_tells d).held trial_files.graph))

-- else memory was wanted
pub write_refused : (name text : List ℕ) (a b : View) (why : Stop) → making.IsMade text name a b (answered.Stopped why) → IsOfMemory why
write_refused name text a b stop.WriteFault h = tt
write_refused name text a b stop.Memory h = tt
write_refused name text a b stop.ReadFault h = absurd h
write_refused name text a b (stop.Graph at why) h = absurd h
write_refused name text a b (stop.TooLong at) h = absurd h

-- ---- the verdict

module _ (sample : Sample) (some : 1 ≤ sample.bits) (narrow : sample.bits ≤ 64) (a b : View) (noted : Option Note)
    (held : HoldsGraph a sample) (short : length (ascii_text (sample_graph sample)) ≤ 2 ^ 64 - 1) where
  abbrev text : List ℕ
  text = ascii_text (sample_graph sample)

  abbrev Is : Verdict → Type 0
  Is v = IsVerdict no_limits trial_task trial_files a b v noted

  made : SpellsAsClaimed (product_under Separate) sample.bits text
  made = design_spells (Multiplier sample.kind) sample.bits sample.adder trial_files.graph some narrow tt

  within : SpellsWithin TwoOperands no_limits.graph text made.0
  within = record { short = short; spells = made.1 }

  -- of the graph that the file spells
  of_file : (P : Aig → Type 0) → HasGraph TwoOperands no_limits.graph (bytes_under a trial_files.graph) P → OfMade sample P
  of_file P h =
      let spelled = subst (λ o. IfSome o (λ bytes. SpellsWithin TwoOperands no_limits.graph bytes h.0)) held h.1 in
      (h.0, spelled.spells, h.2)

  never_wrong : (d : Difference) → Is (verdict.Wrong d) → ⊥
  never_wrong d h =
      let s = of_file (λ g. IsWrong g trial_task.claim d × HasNote g trial_task noted (λ used. ⊤)) h.0 in
      let does = subst (Does (product_under Separate)) (one_graph TwoOperands text made.0 s.0 made.1 s.1) made.3 in
      let far = s.2.0.least.difference in
      far.differs (does d.numbers far.range)

  -- no other verdict comes
  pub never_other : (v : Verdict) → Is v → ((long : Option Slot) → v ≢ verdict.Proved long) → ((tried : Vec Tried Global) (step size : ℕ) (seen : Option Difference) → v ≢ verdict.Undecided tried step size seen) →
      ((why : Stop) → v ≢ verdict.Stopped why) → ⊥
  never_other (verdict.Proved long) h p u s = p long refl
  never_other (verdict.Undecided tried step size seen) h p u s = u tried step size seen refl
  never_other (verdict.Stopped why) h p u s = s why refl
  never_other (verdict.Wrong d) h p u s = never_wrong d h

  -- and no other stop
  stop_refused : b.read_faults ≡ 0 → (why : Stop) → IsStop (IsGraphStop slot.Graph TwoOperands no_limits.graph (bytes_under a trial_files.graph)) a b why → IsOfMemory why
  stop_refused none why h = ⊎_elim
      (λ due. absurd ((graph_exact TwoOperands no_limits.graph text slot.Graph).not_both why (made.0, within)
      (subst (λ o. IsGraphStop slot.Graph TwoOperands no_limits.graph o why) held due)))
      (interrupts_in_memory a b none why)
      (due_or_interrupts (IsGraphStop slot.Graph TwoOperands no_limits.graph (bytes_under a trial_files.graph)) a b why h)

  pub refused_alone : b.read_faults ≡ 0 → (why : Stop) → Is (verdict.Stopped why) → IsOfMemory why
  refused_alone none stop.WriteFault h = tt
  refused_alone none (stop.Graph at why) h = stop_refused none (stop.Graph at why) h.0
  refused_alone none (stop.TooLong at) h = stop_refused none (stop.TooLong at) h.0
  refused_alone none stop.ReadFault h = stop_refused none stop.ReadFault h.0
  refused_alone none stop.Memory h = tt

  module _ (told : (name : List ℕ) → IsSome (a.held name)) (tells : TellsFiles b) (long : Option Slot) (h : Is (verdict.Proved long)) where
    abbrev Wrote : Option Replacement → Type 0
    Wrote used = (read : View) × ReadsGraph a read ×
        ((clauses : List ℕ) × (algebra : List ℕ) × IsPairFor h.0 trial_task used clauses algebra × WritesPair trial_files clauses algebra read b ×
        IsFirstTooLong (lengths_of no_limits) clauses algebra long)

    abbrev bytes : Option (Option (List ℕ)) → Option (List ℕ)
    bytes = option_map (λ x. unwrap_or x [])

    pub held_trial : (n : Note) → noted ≡ Some n → HoldsGraph b sample × HoldsTrial b n
    held_trial n same =
        let note = note_of_some h.0 n noted Wrote same h.2.1 in
        let wrote = note.1 in
        let clauses = wrote.2.0 in
        let algebra = wrote.2.1 in
        let pair = wrote.2.2 in
        let graph_held = ap bytes (graph_stays clauses algebra a wrote.0 b told tells wrote.1 wrote.2.3) ∙ held in (
          graph_held,
          record {
            graph_file = text;
            clause_file = clauses;
            algebra_file = algebra;
            graph_held = graph_held;
            clauses_held = ap bytes (clauses_are_held clauses algebra a wrote.0 b told tells wrote.1 wrote.2.3);
            algebra_held = ap bytes (algebra_is_held clauses algebra a wrote.0 b told tells wrote.1 wrote.2.3);
            graph = h.0;
            spells = subst (λ o. IfSome o (λ b. SpellsWithin TwoOperands no_limits.graph b h.0)) held h.1;
            pair = pair_is_lawful h.0 trial_task pair.0 clauses algebra pair.2;
            does = h.2.0;
            note = (note.0, pair);
          },
        )

-- ---- the check

module _ (sample : Sample) (v : View) (n : Note) (held : HoldsGraph v sample) (h : HoldsTrial v n)
    (clauses_short : length h.clause_file ≤ 2 ^ 64 - 1) (algebra_short : length h.algebra_file ≤ 2 ^ 64 - 1) where
  lawful : IsLawfulPair (lengths_of no_limits) h.graph (product_under Separate) h.clause_file h.algebra_file
  lawful = h.pair (lengths_of no_limits) (within_no_limits h.clause_file clauses_short) (within_no_limits h.algebra_file algebra_short)

  given_of : (g : Aig) (bytes : List ℕ) (p : Premises) → GivesPremises (lengths_of no_limits) g bytes p → ArePremisesOf g p
  given_of g bytes p k = record { header = k.header; takes = k.lawful.takes; version = k.same.version; extended = k.same.extended }

  acceptance_is_due : IsDue no_limits (product_under Separate) (texts_of v trial_files) checked.Accepted
  acceptance_is_due =
      let spelled = subst (λ o. IfSome o (λ bytes. SpellsWithin TwoOperands no_limits.graph bytes h.graph)) (sym h.graph_held) h.spells in
      let gives = subst (λ o. IfSome o (λ bytes. GivesPremises (lengths_of no_limits) h.graph bytes lawful.premises)) (sym h.clauses_held) lawful.gives in
      let good = subst (λ o. IfSome o (IsLawfulAlgebra (lengths_of no_limits) lawful.premises (sides_of Separate h.graph))) (sym h.algebra_held) lawful.lawful in
      inr (h.graph, spelled, inr (lawful.premises, (given_of h.graph h.clause_file lawful.premises lawful.gives, gives), inr (good, refl)))

  module _ (w : View) (none : w.read_faults ≡ 0) (given : Checked) (exact : (due : Checked) → IsDue no_limits (product_under Separate) (texts_of v trial_files) due → GivesDue checked.Stopped v w due given) where
    -- what comes in its place
    pub check_refused : (why : Stop) → given ≡ checked.Stopped why → IsOfMemory why
    check_refused why is = go (exact checked.Accepted acceptance_is_due)
      where
        go : GivesDue checked.Stopped v w checked.Accepted given → IsOfMemory why
        go (inl same) = absurd (cc)
        go (inr h) = let other = h.1 in let one : h.0 ≡ why = cc in subst IsOfMemory one (interrupts_in_memory v w none h.0 h.2)

    -- no other answer comes
    pub never_refused : (why : Refusal) → given ≡ checked.Refused why → ⊥
    never_refused why is = go (exact checked.Accepted acceptance_is_due)
      where
        go : GivesDue checked.Stopped v w checked.Accepted given → ⊥
        go (inl same) = cc
        go (inr h) = let other = h.1 in cc

  pub accepted_of_made : OfMade sample (IsAcceptedWith n)
  accepted_of_made =
      let same : h.graph_file ≡ ascii_text (sample_graph sample) = ap (λ o. unwrap_or o []) (sym h.graph_held ∙ held) in (
        h.graph,
        subst (λ bytes. Spells TwoOperands bytes h.graph) same h.spells.spells,
        record {
          multiplies = (product_is_claimed (ascii_text (sample_graph sample)) h.graph Separate (subst (λ bytes. Spells TwoOperands bytes h.graph) same h.spells.spells)).0 h.does;
          noted = h.note.0;
          clauses = h.clause_file;
          algebra = h.algebra_file;
          written = h.note.1;
          lawful = lawful;
        },
      )
