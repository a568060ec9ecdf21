-- The note has the cause of what came of the rewriting.
use Rattle.std.proofs.Common.{◌≡◌, ℕ, ◌≤◌, Bool, List, arith, refl, sym, subst}
use Rattle.std.specs.Prelude.{IfSome}
use Rattle.std.specs.declared.option.Option.{Option}
use Rattle.std.specs.declared.option.Option.TheVariants.{None, Some}
use Rattle.graph_core.specs.Graph.Extended.{AgreeOnColumns, Extended}
use Rattle.clause_core.specs.ClauseLines.{ClauseLine}
use Rattle.graph_core.specs.Graph.{Aig, IsWellFormed}
use Rattle.graph_core.specs.Graph.Operands.{AreOperandsOf, Sides, has_addend}
use Rattle.mv_fact.specs.Always.{Always}
use Rattle.ripple_graft.specs.Blocks.{with_cut}
use Rattle.ripple_graft.specs.declared.cut.Cut.{Cut}
use Rattle.adder_finder.proofs.FitCuts.{fit_is_cut}
use Rattle.stage_rewriter.specs.Rewriting.{Agrees, IsRewriting, IsRewritingDifference, IsShownRewriting, IsUsed}
use Rattle.stage_rewriter.specs.declared.rewriting.Rewriting.{Rewriting}
use Rattle.stage_rewriter.specs.declared.rewriting.Rewriting.TheVariants as kind
use Rattle.stage_rewriter.specs.Placing.{IsShownBeside}
use Rattle.stage_rewriter.specs.declared.placing.Placed.{Placed}
use Rattle.joint_prover.specs.declared.replacement.Replacement.{Replacement}
use Rattle.joint_prover.specs.declared.replacement.Replacement.TheVariants.{Adder, Beside}
use Rattle.joint_prover.specs.Endings.{replacement_of_found}
use Rattle.joint_prover.specs.Notes.{IsFound, IsNote, replacement_in, replacement_of, note_of, rewriting_note_of}

rewriting_note_is : (g : Aig) (s : Sides) (conflicts : ℕ) (r : Rewriting) → AreOperandsOf g s → IsRewriting g s conflicts r → Agrees r →
    IsNote g s.claim conflicts (rewriting_note_of (has_addend s.claim.widths) r)
rewriting_note_is g s conflicts (kind.Used cut extended log) of used agrees = record {
  stage = used.stage;
  agree = subst (λ (x : Extended). Always x.gates (AgreeOnColumns x)) used.extended_is agrees;
}
rewriting_note_is g s conflicts kind.None of none agrees = none
rewriting_note_is g s conflicts (kind.Differs x) of h agrees =
    (refl, (h.0, h.1, subst (λ (t : Sides). IsRewritingDifference (with_cut g h.0) t x) of h.2))
rewriting_note_is g s conflicts (kind.Spent lemmas goal log) of spent agrees = spent

pub note_is : (g : Aig) (s : Sides) (conflicts : ℕ) (r : Rewriting) (found : Option Replacement) → AreOperandsOf g s → IsRewriting g s conflicts r → Agrees r → IfSome found (IsFound g) →
    IsNote g s.claim conflicts (note_of (has_addend s.claim.widths) r found)
note_is g s conflicts r None of rewriting agrees found = rewriting_note_is g s conflicts r of rewriting agrees
note_is g s conflicts r (Some (Adder cut)) of rewriting agrees found = found
note_is g s conflicts r (Some (Beside b)) of rewriting agrees found = found

-- The note has the adder that is used.
replacement_of_rewriting : (add : Bool) (r : Rewriting) → replacement_of (rewriting_note_of add r) ≡ replacement_in r
replacement_of_rewriting add (kind.Used cut extended log) = refl
replacement_of_rewriting add kind.None = refl
replacement_of_rewriting add (kind.Differs x) = refl
replacement_of_rewriting add (kind.Spent lemmas goal log) = refl

-- or what was found
pub replacement_of_note : (add : Bool) (r : Rewriting) (found : Option Replacement) → replacement_of_found (replacement_in r) found ≡ replacement_of (note_of add r found)
replacement_of_note add r None = sym (replacement_of_rewriting add r)
replacement_of_note add r (Some (Adder cut)) = refl
replacement_of_note add r (Some (Beside b)) = refl

-- The final stage in use is a cut that is shown.
pub shown_of : (g : Aig) (conflicts : ℕ) (cut : Cut) (e : Extended) (lines : List ClauseLine) → IsWellFormed g → IsUsed g conflicts cut e lines → IsShownRewriting g conflicts cut e lines
shown_of g conflicts cut e lines well used = record {
  fits = fit_is_cut g cut well used.stage.fit;
  extended_is = used.extended_is;
  lawful = used.lawful;
  few = used.few;
}

-- What few conflicts show, more do.
pub shown_by_more : (g : Aig) (few more : ℕ) (cut : Cut) (e : Extended) (lines : List ClauseLine) → few ≤ more → IsShownRewriting g few cut e lines → IsShownRewriting g more cut e lines
shown_by_more g few more cut e lines low shown = record {
  fits = shown.fits;
  extended_is = shown.extended_is;
  lawful = shown.lawful;
  few = let short = shown.few in omega arith;
}

pub found_is : (g : Aig) (conflicts : ℕ) (cut : Cut) (e : Extended) (lines : List ClauseLine) → IsShownRewriting g conflicts cut e lines → Always e.gates (AgreeOnColumns e) → IsFound g (Adder cut)
found_is g conflicts cut e lines shown agree = record {
  takes = shown.fits;
  agree = subst (λ (x : Extended). Always x.gates (AgreeOnColumns x)) shown.extended_is agree;
}

-- The same of what stands beside.
pub placed_by_more : (g : Aig) (few more : ℕ) (placed : Placed) → few ≤ more → IsShownBeside g few placed → IsShownBeside g more placed
placed_by_more g few more placed low shown = record {
  fits = shown.fits;
  extended_is = shown.extended_is;
  lawful = shown.lawful;
  few = let short = shown.few in omega arith;
}

pub placed_is_found : (g : Aig) (conflicts : ℕ) (placed : Placed) → IsShownBeside g conflicts placed → Always placed.extended.gates (AgreeOnColumns placed.extended) → IsFound g (Beside placed.beside)
placed_is_found g conflicts placed shown agree = record {
  takes = shown.fits;
  agree = subst (λ (x : Extended). Always x.gates (AgreeOnColumns x)) shown.extended_is agree;
}
