-- What follows from a command's answer, by its status.
use Rattle.std.proofs.Common.{◌≡◌, ℕ, List, Some, None, subst}
use Rattle.std.specs.Prelude.{[], Bool, ⊤, IsSome, Option, option_map, suc, unwrap_or, zero}
use Rattle.command_line.specs.declared.command.Command.{Command}
use Rattle.command_line.specs.declared.command.Command.TheVariants.{Check, CheckSame, Eval, Make, Same, Trial, Trim, Verify}
use Rattle.graph_core.specs.Graph.Operands.{profile_of}
use Rattle.graph_maker.specs.Designed.{designed}
use Rattle.command_core.specs.Files.{HasGraph}
use Rattle.command_core.specs.Stopping.{IsStop}
use Rattle.command_core.specs.declared.stop.Stop.{Stop}
use Rattle.command_core.specs.declared.stop.Stop.TheVariants as stop
use Rattle.joint_prover.specs.declared.note.Note.{Note}
use Rattle.joint_prover.specs.declared.verdict.Tried.{Tried}
use Rattle.joint_prover.specs.Notes.{IsNote, replacement_of}
use Rattle.joint_prover.specs.Tries.{AreTried}
use Rattle.joint_prover.specs.Verdicts.{HaveManyOnes, HoldsPair, IsFirstAbove, IsFirstTooLongHeld}
use Rattle.joint_prover.specs.declared.verdict.Verdict.TheVariants as verdict
use Rattle.mv_desk.specs.View.{View, Rose, bytes_under}
use Rattle.pair_trim.specs.Trimming.{HoldsTrimmed}
use Rattle.same_core.specs.Deciding.{HoldsEqual, IsPairDifference}
use Rattle.same_core.specs.Files as pair
use Rattle.mv_desk.specs.declared.slot.Slot.{Slot}
use Rattle.verdict_program.specs.declared.answer.Answer.{Answer}
use Rattle.verdict_program.specs.declared.answer.Answer.TheVariants as answer
use Rattle.verdict_program.specs.declared.evaluated.Evaluated.TheVariants.{TooGreat}
use Rattle.verdict_program.specs.Answer.{status_of}
use Rattle.verdict_program.specs.Evaluation.{IsValueDue}
use Rattle.verdict_program.specs.Headline.{AreTheSame, IsAsClaimed}
use Rattle.verdict_program.specs.Making.{text_for}
use Rattle.verdict_program.specs.Stops.{status_of_stop}
use Rattle.verdict_program.specs.Trial.{IsAcceptedWith, IsUndecidedWith, OfMade, sample_of}
use Rattle.verdict_program.specs.Runs.{DiffersSomewhere, EndsAsDue, HasSpentPair, IsDueOf, TellsHeld, TellsNames, standard}
use Rattle.verdict_program.proofs.Told.{none_told}

-- what status 0 means
abbrev pub Succeeds : Command → Answer → View → View → Type 0
Succeeds (Check files claim) given a b = IsAsClaimed a files.graph claim
Succeeds (Verify files task) given a b =
    TellsHeld a → TellsNames a → (noted : Option Note) × (long : Option Slot) × (given ≡ answer.Verified (verdict.Proved long) noted) ×
    HoldsPair task files b standard.graph noted × IsFirstTooLongHeld standard files b long
Succeeds (Eval graph point) given a b = ⊤
Succeeds (Make making out) given a b = TellsHeld a → TellsNames a → b.held out ≡ Some (Some (text_for out (designed making.design making.bits making.adder)))
Succeeds (Trial number) given a b = (n : Note) × OfMade (sample_of number) (IsAcceptedWith n)
Succeeds (Same files conflicts) given a b = AreTheSame a files.graph files.other × (TellsHeld a → TellsNames a → HoldsEqual standard.graph conflicts files b)
Succeeds (CheckSame files) given a b = AreTheSame a files.graph files.other
Succeeds (Trim files claim) given a b = IsAsClaimed a files.old.graph claim × (TellsHeld a → TellsNames a → HoldsTrimmed standard claim files a b)

-- where statuses 1, 2 and 5 come
abbrev pub IsWrongFor : Command → View → Type 0
IsWrongFor (Verify files task) a =
    HasGraph (profile_of task.claim.widths) standard.graph (bytes_under a files.graph) (λ g. DiffersSomewhere g task.claim × ((n : Note) × IsNote g task.claim task.conflicts n))
IsWrongFor (Same files conflicts) a =
    pair.HasPair standard.graph (pair.compared_texts_of a files) (λ g h. (inputs : List Bool) × IsPairDifference g h inputs)
IsWrongFor command a = ⊥

abbrev pub IsTooGreatFor : Command → View → Type 0
IsTooGreatFor (Eval graph point) a = IsValueDue standard.graph (bytes_under a graph) point TooGreat
IsTooGreatFor command a = ⊥

abbrev pub IsUndecidedFor : Command → View → Type 0
IsUndecidedFor (Verify files task) a =
    HasGraph (profile_of task.claim.widths) standard.graph (bytes_under a files.graph) (λ g. (step : ℕ) × (size : ℕ) × IsFirstAbove g task.claim task.budget step size ×
    ((n : Note) × IsNote g task.claim task.conflicts n × (tried : List Tried) × AreTried g task.claim task.budget (replacement_of n) tried) × HaveManyOnes g task.claim)
IsUndecidedFor (Trial number) a = (step : ℕ) × (size : ℕ) × (n : Note) × OfMade (sample_of number) (IsUndecidedWith step size n)
IsUndecidedFor (Same files conflicts) a = HasSpentPair conflicts a files
IsUndecidedFor command a = ⊥

-- what a status says of a command's answer
abbrev pub Says : Command → Answer → View → View → ℕ → Type 0
Says command given a b zero = Succeeds command given a b
Says command given a b (suc zero) = IsWrongFor command a
Says command given a b (suc (suc zero)) = IsTooGreatFor command a
Says command given a b (suc (suc (suc (suc (suc zero))))) = IsUndecidedFor command a
Says command given a b (suc (suc (suc (suc (suc (suc zero)))))) = Rose a.read_faults b.read_faults
Says command given a b (suc (suc (suc (suc (suc (suc (suc zero))))))) = Rose a.write_faults b.write_faults
Says command given a b _ = ⊤

-- One command's answer: what its status says, and that the answer which is due is given.
pub record Facts (command : Command) (a b : View) (given : Answer) : Type 0 where
  pub says : Says command given a b (status_of given)
  pub due : TellsHeld a → (due : Answer) → IsDueOf command a due → EndsAsDue (status_of due) (status_of given)

pub said : (command : Command) (a b : View) (given : Answer) → Facts command a b given → (status : ℕ) → status_of given ≡ status → Says command given a b status
said command a b given facts status is = subst (Says command given a b) is facts.says

-- the answer is a stop of a call that only reads
pub stop_says : (command : Command) (given : Answer) (a b : View) (P : Stop → Type 0) (why : Stop) → IsStop P a b why → Says command given a b (status_of_stop why)
stop_says command given a b P (stop.Graph at fail) h = tt
stop_says command given a b P stop.ReadFault h = h
stop_says command given a b P stop.WriteFault h = absurd h
stop_says command given a b P (stop.TooLong at) h = tt
stop_says command given a b P stop.Memory h = tt

-- ---- what is told

pub told_bytes : (a : View) → TellsHeld a → (name : List ℕ) → IsSome (bytes_under a name)
told_bytes a told name = go (a.held name) (told name)
  where
    go : (file : Option (Option (List ℕ))) → IsSome file → IsSome (option_map (λ bytes. unwrap_or bytes []) file)
    go None h = absurd (none_told (Option (List ℕ)) h)
    go (Some file) h = h
