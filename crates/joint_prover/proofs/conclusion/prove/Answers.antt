use Rattle.std.proofs.Common.{◌≡◌, List, ap, subst, sym}
use Rattle.clause_core.specs.ClauseLines.{ClauseLine}
use Rattle.drup_text.specs.WrittenTexts.{any_file_text}
use Rattle.drup_text.specs.declared.head.Header.{Header}
use Rattle.graph_core.specs.Aiger.Sizes.{IsSizedAs}
use Rattle.graph_core.specs.Graph.Operands.{profile_of}
use Rattle.graph_core.specs.declared.claim.Claim.{Claim}
use Rattle.joint_prover.specs.Endings.{replacement_named}
use Rattle.joint_prover.specs.Replacements.{header_of}
use Rattle.joint_prover.specs.Pairs.{AreClausesOver}
use Rattle.joint_prover.proofs.Telling.{has_one, pair_over, shown_clauses}
use Rattle.joint_prover.proofs.conclusion.prove.Goals as goal

pub returns : goal.returns
returns c =
    let job = c.args.job.now in
    let g = job.graph.now in
    let task = job.task in
    let s = c.args.shown in
    let r = replacement_named s in
    let h = c.in_ok-header.header in
    let head : h ≡ header_of g task.version r = c.in_ok-header.ensures in
    let lines = c.in_ok-clauses.ensures.lines in
    let parts = c.into_parts-terms.ensures in
    let made = c.into_parts-terms.result in
    let sized = subst (λ (k : Claim). IsSizedAs (profile_of k.widths) g) c.requires.job.claim c.requires.job.sized in
    let shown = shown_clauses g task s sized c.requires.job.well_formed c.requires.job.version c.requires.shown c.in_ok-clauses.ensures.once in
    let clauses = subst (λ (k : Header). AreClausesOver g task r (any_file_text k c.in_ok-clauses.clauses.items)) (sym head)
    (subst (λ (ls : List ClauseLine). AreClausesOver g task r (any_file_text (header_of g task.version r) ls)) (sym lines) shown) in (
      c.requires.proof.does,
      record {
        one = has_one g task.version r h head;
        go_on = parts.go_on;
        «of» = parts.«of»;
        writable = parts.writable;
        closing = parts.closing_is;
      },
      pair_over g task r (record { header = h; clauses = c.in_ok-clauses.clauses; algebra = made.1; terms = made.0; closing = made.2 }) c.args.lines c.requires.proof clauses (ap (λ (k : Header). k.version) head) parts,
    )
