-- What choosing asks of a pair that was judged, and what it gives.
use Rattle.std.proofs.Common.{◌≡◌, ◌≤◌, ℕ, Bool, true, false, List, [], length, map, arith}
use Rattle.std.proofs.lemmas.List.{length-map}
use Rattle.std.specs.Prelude.{cond, ◌==◌}
use Rattle.graph_core.specs.Graph.Assignments.{Assignment}
use Rattle.graph_core.specs.Graph.Operands.{sides_for}
use Rattle.graph_core.specs.declared.claim.Claim.{Claim}
use Rattle.clause_core.specs.Clause.{Clause}
use Rattle.clause_core.specs.GateClauses.{gate_clauses}
use Rattle.gate_axioms.specs.ClauseValues.{clause_value}
use Rattle.poly_text.specs.declared.line.PacLine.{PacLine}
use Rattle.clause_core.specs.KeptClauses.{AreBelow}
use Rattle.clause_core.proofs.CallerLemmas.{as_many}
use Rattle.pair_core.specs.ClauseFiles.{importable}
use Rattle.joint_checker.specs.Judged.{IsJudgedPair, extended_of, premises_for}
use Rattle.joint_checker.specs.declared.checking.Judged.{Judged}
use Rattle.pair_trim.specs.Lines.{AreLinesKept, imports_in}
use Rattle.pair_trim.proofs.Renumbering.{kept_imports_are_there}

few_imports : (f : Clause → Assignment → ℕ) (version : ℕ) (cs : List Clause) → length (map f (importable version cs)) ≤ length cs
few_imports f version cs = go (version == 1)
  where
    go : (b : Bool) → length (map f (cond b [] cs)) ≤ length cs
    go true = omega arith
    go false = let same = length-map cs f in omega (arith, same)

module _ (claim : Claim) (j : Judged) (judged : IsJudgedPair claim j) where
  pub imports_there : (kept : List PacLine) → AreLinesKept j.closed.record.lines.items j.closed.id kept → AreBelow (length j.recorded.added) (imports_in kept)
  imports_there kept h = kept_imports_are_there (premises_for j) (sides_for claim j.graph) j.closed.record.terms j.closed.record.lines.items kept j.closed.id (length j.recorded.added) h judged.lines.lawful
      (few_imports clause_value j.header.version j.recorded.added)

  pub uses_long : length j.recorded.uses.items ≡ length j.recorded.added
  uses_long = as_many (gate_clauses (extended_of j).gates) [] j.recorded.added j.recorded.uses.items judged.clauses.chains
