-- The answers of `check_same`, as files are opened and read one after the other.
use Rattle.std.specs.Prelude.{◌≡◌, ℕ, List, IfSome}
use Rattle.std.specs.declared.option.Option.{Option}
use Rattle.std.proofs.Common.{refl, sym, subst, arith, inl, inr}
use Rattle.aiger_reader.specs.Refusals.{SpellsWithin}
use Rattle.command_core.specs.Stopping.{IsGraphStop, IsLong, IsStop}
use Rattle.command_core.specs.declared.stop.Stop.{Stop}
use Rattle.command_core.specs.declared.stop.Stop.TheVariants as stop
use Rattle.command_core.proofs.CallerLemmas.{IsGraphStop-about, IsLong-about, IsLong-due, IsStop-weaker, opens_up_to, some_number}
use Rattle.graph_core.specs.Graph.Extended.{AgreeOnColumns, Extended}
use Rattle.graph_core.specs.declared.profile.Profile.TheVariants.{Any}
use Rattle.graph_core.specs.Graph.{Aig, IsBuilt}
use Rattle.mv_fact.specs.Always.{Always}
use Rattle.clause_judge.specs.Faults as fault
use Rattle.clause_judge.specs.Faults.{ClauseFault, fail_of}
use Rattle.clause_judge.specs.LineRefusals.{line_cause}
use Rattle.clause_judge.specs.declared.fail.ClauseFail.{ClauseFail}
use Rattle.clause_judge.specs.declared.fail.ClauseFail.TheVariants as clauses
use Rattle.clause_judge.proofs.Fails.{line_is}
use Rattle.drup_text.specs.HeaderRefusal.{TooLong}
use Rattle.mv_desk.specs.Calls.{Inspects}
use Rattle.mv_desk.specs.View.{OpensFiles, View, bytes_under}
use Rattle.mv_desk.specs.declared.limits.Limits.{Limits}
use Rattle.mv_desk.specs.declared.slot.Slot.TheVariants as slot
use Rattle.mv_desk.proofs.CallerLemmas.{bytes_under-held}
use Rattle.mv_text.specs.LineReading.{lengths_of}
use Rattle.same_core.specs.declared.checked.SameChecked.TheVariants as checked
use Rattle.same_core.specs.declared.merged.MergeFail.{MergeFail}
use Rattle.same_core.specs.declared.merged.MergeFail.TheVariants as merge
use Rattle.same_core.specs.declared.pairs.PairFail.{PairFail}
use Rattle.same_core.specs.declared.pairs.PairFail.TheVariants as pair
use Rattle.same_core.specs.declared.verdict.Same.TheVariants as same
use Rattle.same_core.specs.Answers.{answer_of_merge, answer_of_pair, pair_answer_of_clauses, same_of_pair}
use Rattle.same_core.specs.Certificates.{IsLawful, IsMergedFileRefusal, IsMergedLineRefusal}
use Rattle.same_core.specs.Fails.{IsPairClauseFail}
use Rattle.same_core.specs.Files.{ComparedFiles, IsSpelled, compared_texts_of}
use Rattle.same_core.specs.Merged.{AreOfOneShape, Both, both, merged}
use Rattle.same_core.specs.Deciding.{OpensForCompared}
use Rattle.same_core.specs.Outcome.{IsPairCheckDue, IsPairOutcome, IsPairStop, OpensForPair, pair_place}
use Rattle.same_core.specs.Pairs.{IsPairFail, IsReadPair}
use Rattle.same_core.proofs.Merging.{merged_outputs_agree}

module _ (limits : Limits) (files : ComparedFiles) where
  -- a fact of the bytes under a name, where nothing held was changed in between
  earlier : (a b : View) (name : List ℕ) (P : List ℕ → Type 0) → Inspects a b → IfSome (bytes_under b name) P → IfSome (bytes_under a name) P
  earlier a b name P inspects h = subst (λ (o : Option (List ℕ)). IfSome o P) (bytes_under-held a b name (inspects.held name)) h

  -- no first graph was read
  pub first_answers : (a b : View) (why : Stop) → IsStop (IsGraphStop slot.Graph Any limits.graph (bytes_under a files.graph)) a b why → IsPairFail limits files a b (pair.Stopped why)
  first_answers a b why h =
      IsStop-weaker (IsGraphStop slot.Graph Any limits.graph (bytes_under a files.graph)) a b (IsPairStop limits.graph (compared_texts_of a files)) a (λ w k. inl k) (omega arith) why h

  pub first_opened : (a b : View) (why : Stop) → IsStop (IsGraphStop slot.Graph Any limits.graph (bytes_under a files.graph)) a b why → OpensFiles 1 a b → OpensForCompared (same.Stopped why) a b
  first_opened a b why h opened =
      let text = bytes_under a files.graph in
      opens_up_to (IsGraphStop slot.Graph Any limits.graph text) a b pair_place 2 slot.Graph (IsGraphStop-about slot.Graph Any limits.graph text) (omega arith) a opened why h

  module _ (a b c : View) (first : Inspects a b) (g : Aig) (spelled : IsSpelled limits.graph (bytes_under a files.graph) g) where
    -- no second graph was read
    pub other_answers : (why : Stop) → IsStop (IsGraphStop slot.Other Any limits.graph (bytes_under b files.other)) b c why → IsPairFail limits files a c (pair.Stopped why)
    other_answers why h =
        IsStop-weaker (IsGraphStop slot.Other Any limits.graph (bytes_under b files.other)) b c (IsPairStop limits.graph (compared_texts_of a files)) a
        (λ w k. inr (g, spelled, subst (λ (o : Option (List ℕ)). IsGraphStop slot.Other Any limits.graph o w) (bytes_under-held a b files.other (first.held files.other)) k)) first.later why h

    pub other_opened : (why : Stop) → IsStop (IsGraphStop slot.Other Any limits.graph (bytes_under b files.other)) b c why → OpensFiles 2 a c → OpensForCompared (same.Stopped why) a c
    other_opened why h opened =
        let text = bytes_under b files.other in
        opens_up_to (IsGraphStop slot.Other Any limits.graph text) b c pair_place 2 slot.Other (IsGraphStop-about slot.Other Any limits.graph text) (omega arith) a opened why h

    module _ (h : Aig) (other : IsSpelled limits.graph (bytes_under b files.other) h) where
      there : IsSpelled limits.graph (bytes_under a files.other) h
      there = earlier a b files.other (λ bytes. SpellsWithin Any limits.graph bytes h) first other

      -- they weren't merged
      pub merge_answers : (given : MergeFail) → (given ≡ merge.Shape → ¬ (AreOfOneShape g h)) → IsPairFail limits files a c (answer_of_merge given)
      merge_answers merge.Shape shape = (g, spelled, (h, there, shape refl))
      merge_answers merge.Memory shape = tt

      pub merge_opened : (given : MergeFail) → OpensFiles 2 a c → OpensForCompared (same_of_pair (answer_of_merge given)) a c
      merge_opened merge.Shape opened = opened
      merge_opened merge.Memory opened = (2, omega arith, opened)

      -- they were
      pub pair_is : (m : Both) → IsBuilt g → IsBuilt h → AreOfOneShape g h → m ≡ both g h → IsReadPair limits.graph (compared_texts_of a files) g m
      pair_is m built built' shape is = record { other = h; spelled = spelled; other_spelled = there; built = built; other_built = built'; shape = shape; merged_is = is }

  -- no pair was read for a check
  pub pair_answers : (a b : View) (given : PairFail) → IsPairFail limits files a b given → IsPairOutcome limits files a b (answer_of_pair given)
  pair_answers a b pair.Shapes (g, s, (h, t, differ)) = inr (g, s, inr (h, t, inl (differ, refl)))
  pair_answers a b (pair.Stopped why) h =
      IsStop-weaker (IsPairStop limits.graph (compared_texts_of a files)) a b (λ stop. IsPairCheckDue limits (compared_texts_of a files) (checked.Stopped stop)) a due (omega arith) why h
    where
      due : (w : Stop) → IsPairStop limits.graph (compared_texts_of a files) w → IsPairCheckDue limits (compared_texts_of a files) (checked.Stopped w)
      due w (inl k) = inl (w, k, refl)
      due w (inr (g, s, k)) = inr (g, s, inl (w, k, refl))

  pub pair_opened : (a b : View) (given : PairFail) → IsPairFail limits files a b given → OpensForCompared (same_of_pair given) a b → OpensForPair (answer_of_pair given) a b
  pair_opened a b pair.Shapes h opened = opened
  pair_opened a b (pair.Stopped (stop.Graph at why)) h opened = opened
  pair_opened a b (pair.Stopped (stop.TooLong at)) h opened = opened
  pair_opened a b (pair.Stopped stop.ReadFault) h opened = (opened.0, omega (arith, opened.1), opened.2)
  pair_opened a b (pair.Stopped stop.WriteFault) h opened = absurd h
  pair_opened a b (pair.Stopped stop.Memory) h opened = (opened.0, omega (arith, opened.1), opened.2)

  module _ (a c d : View) (inspects : Inspects a c) (g : Aig) (m : Both) (p : IsReadPair limits.graph (compared_texts_of a files) g m) where
    abbrev e : Extended
    e = merged g p.other

    refused : (f : ClauseFault) → IfSome (bytes_under c files.clauses) (λ bytes. IsMergedFileRefusal (lengths_of limits) e bytes f) →
        IsPairCheckDue limits (compared_texts_of a files) (pair_answer_of_clauses (fail_of f))
    refused f h = inr (g, p.spelled, inr (p.other, p.other_spelled, inr (p.shape, inl (f, earlier a c files.clauses (λ bytes. IsMergedFileRefusal (lengths_of limits) e bytes f) inspects h, refl))))

    -- the clause file isn't lawful
    pub clauses_answers : (given : ClauseFail) → IsPairClauseFail (lengths_of limits) e (bytes_under c files.clauses) c d given → IsPairOutcome limits files a d (pair_answer_of_clauses given)
    clauses_answers (clauses.Line line why) k =
        subst (λ (x : ClauseFail). IsPairCheckDue limits (compared_texts_of a files) (pair_answer_of_clauses x)) (sym (line_is line why)) (refused (fault.Line (line, line_cause why)) k)
    clauses_answers (clauses.Goals output) k = refused (fault.Goals output) k
    clauses_answers (clauses.Stopped why) k =
        let Long : List ℕ → ℕ → Type 0 = λ bytes line. IsMergedLineRefusal (lengths_of limits) e bytes (line, TooLong) in
        let text = bytes_under c files.clauses in
        let Due : Stop → Type 0 = λ stop. IsPairCheckDue limits (compared_texts_of a files) (checked.Stopped stop) in
        IsStop-weaker (IsLong slot.Clauses (IfSome text (λ bytes. (line : ℕ) × Long bytes line))) c d Due a
        (IsLong-due slot.Clauses (IfSome text (λ bytes. (line : ℕ) × Long bytes line)) Due (λ long. let n = some_number text Long long in refused (fault.Line (n.0, TooLong)) n.1)) inspects.later why k

    -- It is lawful, and the outputs are equal on every evaluation of the merged gates.
    pub accepts : IfSome (bytes_under c files.clauses) (IsLawful (lengths_of limits) e) → Always e.gates (AgreeOnColumns e) → IsPairOutcome limits files a d checked.Accepted
    accepts lawful agree =
        let well = p.built.well_formed in
        let well' = p.other_built.well_formed in
        (g, p.spelled, (p.other, p.other_spelled, (p.shape, (earlier a c files.clauses (IsLawful (lengths_of limits) e) inspects lawful, merged_outputs_agree g p.other well well' p.shape agree))))

  pub clauses_opened : (x : Extended) (text : Option (List ℕ)) (a c d : View) (given : ClauseFail) → IsPairClauseFail (lengths_of limits) x text c d given → OpensFiles 3 a d → OpensForPair (pair_answer_of_clauses given) a d
  clauses_opened x text a c d (clauses.Line line why) k opened = opened
  clauses_opened x text a c d (clauses.Goals output) k opened = opened
  clauses_opened x text a c d (clauses.Stopped why) k opened =
      let P : Type 0 = IfSome text (λ bytes. (line : ℕ) × IsMergedLineRefusal (lengths_of limits) x bytes (line, TooLong)) in
      opens_up_to (IsLong slot.Clauses P) c d pair_place 3 slot.Clauses (IsLong-about slot.Clauses P) (omega arith) a opened why k
