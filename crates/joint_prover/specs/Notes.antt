-- The note on a rewriting, and where each kind of it comes.
use Rattle.std.specs.Prelude.{◌≡◌, ℕ, Bool}
use Rattle.std.specs.declared.option.Option.{Option}
use Rattle.std.specs.declared.option.Option.TheVariants.{None, Some}
use Rattle.graph_core.specs.Graph.Extended.{AgreeOnColumns}
use Rattle.graph_core.specs.Graph.{Aig}
use Rattle.graph_core.specs.Graph.Operands.{has_addend, sides_for}
use Rattle.graph_core.specs.declared.claim.Claim.{Claim}
use Rattle.graph_core.specs.declared.numbers.Numbers.{Numbers}
use Rattle.mv_fact.specs.Always.{Always}
use Rattle.ripple_graft.specs.Blocks.{with_cut}
use Rattle.ripple_graft.specs.declared.cut.Cut.{Cut}
use Rattle.adder_finder.specs.FinalStage.{IsFinalStage}
use Rattle.goal_refuter.specs.Refutations.{IsSpent}
use Rattle.stage_rewriter.specs.Rewriting.{IsRewritingDifference}
use Rattle.stage_rewriter.specs.declared.rewriting.Rewriting.{Rewriting}
use Rattle.stage_rewriter.specs.declared.rewriting.Rewriting.TheVariants as kind
use Rattle.joint_prover.specs.declared.note.Note.{Note}
use Rattle.joint_prover.specs.declared.note.Note.TheVariants as note
use Rattle.joint_prover.specs.declared.replacement.Replacement.{Replacement}
use Rattle.joint_prover.specs.declared.replacement.Replacement.TheVariants.{Adder, Beside}
use Rattle.joint_prover.specs.Replacements.{Takes, extended_by}

-- The cut is the final stage; with an adder there each new output equals the old one on every evaluation.
pub record IsUsedCut (g : Aig) (cut : Cut) : Type 0 where
  pub stage : IsFinalStage g cut
  pub agree : Always (with_cut g cut).gates (AgreeOnColumns (with_cut g cut))

-- The graph takes it, and with it each new output equals the old one on every evaluation.
pub record IsFound (g : Aig) (r : Replacement) : Type 0 where
  pub takes : Takes g (Some r)
  pub agree : Always (extended_by g (Some r)).gates (AgreeOnColumns (extended_by g (Some r)))

-- Numbers on which some new output differs from the old one, with an adder in place of the final stage.
abbrev pub DiffersAtStage : Aig → Claim → Numbers → Type 0
DiffersAtStage g claim x = (cut : Cut) × IsFinalStage g cut × IsRewritingDifference (with_cut g cut) (sides_for claim g) x

-- Each kind by its cause: there is no final stage; numbers on which some new output differs from the old one, and whether there is an
-- addend; as many lemmas as there may be conflicts, and the goal in hand doesn't follow.
abbrev pub IsNote : Aig → Claim → ℕ → Note → Type 0
IsNote g claim conflicts (note.Used cut) = IsUsedCut g cut
IsNote g claim conflicts note.None = (cut : Cut) → ¬ (IsFinalStage g cut)
IsNote g claim conflicts (note.Differs x add) = (has_addend claim.widths ≡ add) × DiffersAtStage g claim x
IsNote g claim conflicts (note.Spent lemmas goal log) = (cut : Cut) × IsFinalStage g cut × IsSpent (with_cut g cut) conflicts lemmas goal log
IsNote g claim conflicts (note.Found cut) = IsFound g (Adder cut)
IsNote g claim conflicts (note.Beside b) = IsFound g (Beside b)

-- what stands in the graph over which a plan is tried first
abbrev pub replacement_of : Note → Option Replacement
replacement_of (note.Used cut) = Some (Adder cut)
replacement_of note.None = None
replacement_of (note.Differs x add) = None
replacement_of (note.Spent lemmas goal log) = None
replacement_of (note.Found cut) = Some (Adder cut)
replacement_of (note.Beside b) = Some (Beside b)

-- the note on what came of a rewriting
abbrev pub rewriting_note_of : Bool → Rewriting → Note
rewriting_note_of add (kind.Used cut extended log) = note.Used cut
rewriting_note_of add kind.None = note.None
rewriting_note_of add (kind.Differs x) = note.Differs x add
rewriting_note_of add (kind.Spent lemmas goal log) = note.Spent lemmas goal log

-- and where something else was found
abbrev pub note_of : Bool → Rewriting → Option Replacement → Note
note_of add r None = rewriting_note_of add r
note_of add r (Some (Adder cut)) = note.Found cut
note_of add r (Some (Beside b)) = note.Beside b

-- the adder that is used
abbrev pub replacement_in : Rewriting → Option Replacement
replacement_in (kind.Used cut extended log) = Some (Adder cut)
replacement_in kind.None = None
replacement_in (kind.Differs x) = None
replacement_in (kind.Spent lemmas goal log) = None
