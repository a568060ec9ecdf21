-- Where two graphs of one shape are told, an answer is on them; else the one that is due is given, or a stop that interrupts.
use Rattle.std.proofs.Common.{◌≡◌, ℕ, List, Option, Some, None, ap, refl, sym, subst, inl, inr}
use Rattle.std.specs.Prelude.{IfSome, IsSome, is_some, ⊤}
use Rattle.aiger_reader.specs.Refusals.{SpellsWithin}
use Rattle.command_core.specs.InOrder.{IsOneDue, OverGraph}
use Rattle.command_core.specs.Stopping.{GivesDue}
use Rattle.command_core.specs.declared.stop.Stop.TheVariants as stop
use Rattle.command_core.proofs.CallerLemmas.{one_answer, one_over_graph, one_unless}
use Rattle.graph_core.specs.declared.profile.Profile.TheVariants.{Any}
use Rattle.graph_core.specs.Graph.{Aig}
use Rattle.graph_core.specs.Text.JudgedLines.{Unless}
use Rattle.mv_desk.specs.declared.limits.Limits.{Limits}
use Rattle.mv_desk.specs.declared.slot.Slot.TheVariants as slot
use Rattle.same_core.specs.declared.verdict.Same.{Same}
use Rattle.same_core.specs.declared.verdict.Same.TheVariants as same
use Rattle.same_core.specs.Deciding.{IsCompared, IsOnPair, IsPairDue, PairAnswersAreExact, PairsAreDecided}
use Rattle.same_core.specs.Files.{ComparedTexts, HasPair, compared_texts_of}
use Rattle.same_core.specs.Merged.{AreOfOneShape}
use Rattle.same_core.proofs.DueRows.{decided_shape}

-- ---- one answer, where a pair of one shape is called equal

abbrev OnBoth : Aig → Aig → Same → Type 0
OnBoth g h = Unless (AreOfOneShape g h) (¬ (AreOfOneShape g h)) same.Shapes (λ given. given ≡ same.Equal)

abbrev OnFirst : ℕ → Option (List ℕ) → Aig → Same → Type 0
OnFirst limit other g = OverGraph same.Stopped slot.Other Any limit other (OnBoth g)

abbrev OnFiles : ℕ → Option (List ℕ) → Option (List ℕ) → Same → Type 0
OnFiles limit file other = OverGraph same.Stopped slot.Graph Any limit file (OnFirst limit other)

one_of : (limit : ℕ) (file other : Option (List ℕ)) → IsSome file → IsSome other → IsOneDue (OnFiles limit file other)
one_of limit (Some file) (Some other) f o = one_over_graph same.Stopped slot.Graph Any limit file (OnFirst limit (Some other))
    (λ g s. one_over_graph same.Stopped slot.Other Any limit other (OnBoth g)
    (λ h t. one_unless same.Shapes (decided_shape g h) (λ differ shape. differ shape) (λ shape. one_answer same.Equal)))
one_of limit None other f o = absurd (cc)
one_of limit (Some file) None f o = absurd (cc)

module _ (limits : Limits) (texts : ComparedTexts) (file_told : IsSome texts.graph) (other_told : IsSome texts.other) where
  on_files : (x : Same) → IsPairDue limits texts x → OnFiles limits.graph texts.graph texts.other x
  on_files same.Shapes (g, s, (h, t, differ)) = inr (g, s, inr (h, t, inl (differ, refl)))
  on_files (same.Stopped why) (inl h) = inl (why, h, refl)
  on_files (same.Stopped why) (inr (g, s, h)) = inr (g, s, inl (why, h, refl))
  on_files same.Equal h = absurd h
  on_files (same.Differs inputs) h = absurd h
  on_files (same.Spent lemmas goal log) h = absurd h

  one : (x y : Same) → OnFiles limits.graph texts.graph texts.other x → OnFiles limits.graph texts.graph texts.other y → x ≡ y
  one = (one_of limits.graph texts.graph texts.other file_told other_told).one

  one_due : (x y : Same) → IsPairDue limits texts x → IsPairDue limits texts y → x ≡ y
  one_due x y h k = one x y (on_files x h) (on_files y k)

  -- of a pair none of these is due
  none_due : (P : Aig → Aig → Type 0) → HasPair limits.graph texts P → (x : Same) → IsPairDue limits texts x → ⊥
  none_due P (g, s, (h, t, (shape, holds))) x k = subst (IsPairDue limits texts) (one x same.Equal (on_files x k) (inr (g, s, inr (h, t, inr (shape, refl))))) k

pub pairs_are_decided : PairsAreDecided
pairs_are_decided limits conflicts files before after given p h = go given h
  where
    spelled : (text : Option (List ℕ)) (file : List ℕ) (g : Aig) → text ≡ Some file → SpellsWithin Any limits.graph file g → IfSome text (λ bytes. SpellsWithin Any limits.graph bytes g)
    spelled text file g is s = subst (λ o. IfSome o (λ bytes. SpellsWithin Any limits.graph bytes g)) (sym is) s

    pair : HasPair limits.graph (compared_texts_of before files) (λ g h. ⊤)
    pair = (p.4, spelled (compared_texts_of before files).graph p.0 p.4 p.2 p.6, (p.5, spelled (compared_texts_of before files).other p.1 p.5 p.3 p.7, (p.8, tt)))

    none : (x : Same) → IsPairDue limits (compared_texts_of before files) x → ⊥
    none = none_due limits (compared_texts_of before files) (ap is_some p.2) (ap is_some p.3) (λ g h. ⊤) pair

    go : (x : Same) → IsCompared limits conflicts files before after x → IsOnPair x
    go same.Equal k = tt
    go (same.Differs inputs) k = tt
    go (same.Spent lemmas goal log) k = tt
    go same.Shapes k = absurd (none same.Shapes k.0)
    go (same.Stopped (stop.Graph at why)) k = absurd (none (same.Stopped (stop.Graph at why)) k.0)
    go (same.Stopped (stop.TooLong at)) k = absurd (none (same.Stopped (stop.TooLong at)) k.0)
    go (same.Stopped stop.ReadFault) k = tt
    go (same.Stopped stop.WriteFault) k = tt
    go (same.Stopped stop.Memory) k = tt

pub pair_answers_are_exact : PairAnswersAreExact
pair_answers_are_exact limits conflicts files before after given file_told other_told h due k = go given h
  where
    none : (P : Aig → Aig → Type 0) → HasPair limits.graph (compared_texts_of before files) P → ⊥
    none P p = none_due limits (compared_texts_of before files) file_told other_told P p due k

    is_due : (x : Same) → IsPairDue limits (compared_texts_of before files) x → GivesDue same.Stopped before after due x
    is_due x p = inl (one_due limits (compared_texts_of before files) file_told other_told x due p k)

    go : (x : Same) → IsCompared limits conflicts files before after x → GivesDue same.Stopped before after due x
    go same.Equal p = absurd (none _ p)
    go (same.Differs inputs) p = absurd (none _ p.0)
    go (same.Spent lemmas goal log) p = absurd (none _ p.0)
    go same.Shapes p = is_due same.Shapes p.0
    go (same.Stopped (stop.Graph at why)) p = is_due (same.Stopped (stop.Graph at why)) p.0
    go (same.Stopped (stop.TooLong at)) p = is_due (same.Stopped (stop.TooLong at)) p.0
    go (same.Stopped stop.ReadFault) p = inr (stop.ReadFault, refl, p.0)
    go (same.Stopped stop.WriteFault) p = inr (stop.WriteFault, refl, p.0)
    go (same.Stopped stop.Memory) p = inr (stop.Memory, refl, tt)
