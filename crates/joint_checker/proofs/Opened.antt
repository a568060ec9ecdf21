-- How many files were opened for each answer.
use Rattle.std.proofs.Common.{ℕ, List, Option, IfSome, arith}
use Rattle.command_core.specs.Stopping.{IsGraphStop, IsLong, IsStop}
use Rattle.command_core.specs.declared.stop.Stop.{Stop}
use Rattle.command_core.proofs.CallerLemmas.{IsGraphStop-about, IsLong-about, opens_up_to}
use Rattle.drup_text.specs.HeaderRefusal.{TooLong}
use Rattle.graph_core.specs.Graph.{Aig}
use Rattle.algebra_core.specs.AlgebraLines.{Premises}
use Rattle.algebra_core.specs.Refusal as cause
use Rattle.algebra_core.specs.Refusal.{IsAlgebraRefusal}
use Rattle.graph_core.specs.Graph.Operands.{Sides}
use Rattle.graph_core.specs.Text.JudgedLines.{Lengths}
use Rattle.mv_desk.specs.View.{OpensFiles, View}
use Rattle.mv_desk.specs.declared.slot.Slot.TheVariants as slot
use Rattle.graph_core.specs.declared.profile.Profile.{Profile}
use Rattle.joint_checker.specs.declared.checked.Checked.TheVariants as checked
use Rattle.algebra_judge.specs.declared.fail.AlgebraFail.{AlgebraFail}
use Rattle.algebra_judge.specs.declared.fail.AlgebraFail.TheVariants as algebra
use Rattle.clause_judge.specs.declared.fail.ClauseFail.{ClauseFail}
use Rattle.clause_judge.specs.declared.fail.ClauseFail.TheVariants as clauses
use Rattle.joint_checker.specs.Answers.{answer_of_algebra, answer_of_clauses}
use Rattle.joint_checker.specs.ClauseRefusals.{IsClauseRefusal}
use Rattle.joint_checker.specs.Fails.{IsAlgebraFail, IsClauseFail}
use Rattle.joint_checker.specs.Outcome.{OpensFor, check_place}

-- the desk before the first file is opened, before this one is, and at the end
module _ (first before now : View) where
  pub graph_opened : (profile : Profile) (limit : ℕ) (text : Option (List ℕ)) (why : Stop) → IsStop (IsGraphStop slot.Graph profile limit text) before now why → OpensFiles 1 first now → OpensFor (checked.Stopped why) first now
  graph_opened profile limit text why h opened =
      opens_up_to (IsGraphStop slot.Graph profile limit text) before now check_place 3 slot.Graph (IsGraphStop-about slot.Graph profile limit text) (omega arith) first opened why h

  pub clauses_opened : (lengths : Lengths) (g : Aig) (text : Option (List ℕ)) (given : ClauseFail) → IsClauseFail lengths g text before now given → OpensFiles 2 first now → OpensFor (answer_of_clauses given) first now
  clauses_opened lengths g text (clauses.Line line why) h opened = opened
  clauses_opened lengths g text (clauses.Goals column) h opened = opened
  clauses_opened lengths g text (clauses.Stopped why) h opened =
      let P = IfSome text (λ bytes. (line : ℕ) × IsClauseRefusal lengths g bytes (line, TooLong)) in
      opens_up_to (IsLong slot.Clauses P) before now check_place 3 slot.Clauses (IsLong-about slot.Clauses P) (omega arith) first opened why h

  pub algebra_opened : (lengths : Lengths) (p : Premises) (sides : Sides) (text : Option (List ℕ)) (given : AlgebraFail) → IsAlgebraFail lengths p sides text before now given → OpensFiles 3 first now → OpensFor (answer_of_algebra given) first now
  algebra_opened lengths p sides text (algebra.Line line why) h opened = opened
  algebra_opened lengths p sides text (algebra.Stopped why) h opened =
      let P = IfSome text (λ bytes. (line : ℕ) × IsAlgebraRefusal p sides lengths bytes (line, cause.TooLong)) in
      opens_up_to (IsLong slot.Algebra P) before now check_place 3 slot.Algebra (IsLong-about slot.Algebra P) (omega arith) first opened why h
