-- Numbers on which a graph isn't what is claimed, and the least of them.
use Rattle.std.proofs.Common.{◌≡◌, ◌≢◌, ℕ, ◌%◌, ◌^◌, Bool, length, sym, subst, ◌∙◌}
use Rattle.frontier_core.proofs.CallerLemmas.{difference_is_of_numbers}
use Rattle.graph_core.specs.Graph.{Aig}
use Rattle.graph_core.specs.Graph.Operands.{AreInRange, HasShapeFor, Sides, claimed_at, has_addend, output_modulus, sides_for, value_at}
use Rattle.graph_core.specs.declared.claim.Claim.{Claim}
use Rattle.graph_core.specs.declared.numbers.Numbers.{Numbers}
use Rattle.graph_core.proofs.OfAiger.CallerLemmas.{shape_for}
use Rattle.joint_prover.specs.declared.difference.Difference.{Difference}
use Rattle.joint_prover.specs.declared.task.Job.{Job}
use Rattle.joint_prover.specs.Endings.{AreLeast, IsJob}
use Rattle.joint_prover.specs.Verdicts.{IsSeen, IsValued, IsWrong}
use Rattle.joint_prover.proofs.Remainders.{operands_are}

module _ (job : Job) (is : IsJob job) where
  abbrev g : Aig
  g = job.graph.now

  abbrev s : Sides
  s = sides_for job.task.claim g

  shape_there : HasShapeFor job.task.claim.widths g
  shape_there = subst (λ (k : Claim). HasShapeFor k.widths g) is.claim (shape_for job.operands.now.claim.widths g is.sized)

  -- what was looked at is told
  pub valued_there : (x : Numbers) (outputs v p : ℕ) (add : Bool) → outputs ≡ length g.outputs → v ≡ value_at g job.operands.now x →
      p ≡ claimed_at (2 ^ outputs) job.operands.now x % 2 ^ outputs → add ≡ has_addend job.task.claim.widths →
      IsValued g job.task.claim (record { numbers = x; has_addend = add; value = v; claimed = p })
  valued_there x outputs v p add many value claimed has = record {
    addend = sym has;
    value_is = subst (λ t. v ≡ value_at g t x) (operands_are job is) value;
    claimed_is = subst (λ t. p ≡ claimed_at (output_modulus g) t x % output_modulus g) (operands_are job is)
        (subst (λ n. p ≡ claimed_at (2 ^ n) job.operands.now x % 2 ^ n) many claimed);
  }

  module _ (x : Numbers) (d : Difference) (of : d.numbers ≡ x) (valued : IsValued g job.task.claim d) where
    pub wrong_there : AreLeast g job.operands.now x → IsWrong g job.task.claim d
    wrong_there least =
        let there = subst (λ y. AreLeast g s y) (sym of) (subst (λ t. AreLeast g t x) (operands_are job is) least) in
        record { least = (difference_is_of_numbers g job.task.claim d.numbers shape_there is.well_formed.defined_once there.range).0 there.least; valued = valued }

    pub seen_there : AreInRange job.operands.now x → d.value ≢ d.claimed → IsSeen g job.task.claim d
    seen_there range apart = record {
      difference = record {
        range = subst (λ y. AreInRange s y) (sym of) (subst (λ t. AreInRange t x) (operands_are job is) range);
        differs = λ same. apart (valued.value_is ∙ same ∙ sym valued.claimed_is);
      };
      valued = valued;
    }
