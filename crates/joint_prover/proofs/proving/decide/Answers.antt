use Rattle.std.proofs.Common.{ap, refl, sym, subst, ◌∙◌}
use Rattle.graph_core.specs.Aiger.Sizes.{IsSizedAs}
use Rattle.graph_core.specs.Graph.Operands.{AreOperandsOf, HasShapeFor, Sides, has_addend, profile_of}
use Rattle.graph_core.proofs.OfAiger.CallerLemmas.{narrow_for, shape_for}
use Rattle.joint_prover.specs.Decisions.{IsDecision}
use Rattle.joint_prover.specs.Notes.{IsNote, replacement_of, note_of}
use Rattle.joint_prover.proofs.Noting.{replacement_of_note, note_is}
use Rattle.joint_prover.proofs.proving.decide.Goals as goal

pub under-requires-clause-shape : goal.under-requires-clause-shape
under-requires-clause-shape c = shape_for c.args.task.now.claim.widths c.args.graph.now c.requires.sized

pub under-requires-clause-narrow : goal.under-requires-clause-narrow
under-requires-clause-narrow c = narrow_for c.args.task.now.claim.widths c.args.graph.now c.requires.sized

pub rewrite-requires-clause-shape : goal.rewrite-requires-clause-shape
rewrite-requires-clause-shape c =
    subst (λ (s : Sides). HasShapeFor s.claim.widths c.args.graph.now) (sym c.in_ok-operands.ensures) (shape_for c.args.task.now.claim.widths c.args.graph.now c.requires.sized)

pub rewrite-requires-clause-operands : goal.rewrite-requires-clause-operands
rewrite-requires-clause-operands c = subst (AreOperandsOf c.args.graph.now) (sym c.in_ok-operands.ensures) refl

pub decide_rewritten-requires-clause-job : goal.decide_rewritten-requires-clause-job
decide_rewritten-requires-clause-job c =
    let graph = c.args.graph.now in
    let is = sym c.in_ok-operands.ensures in
    record {
      operands = subst (AreOperandsOf graph) is refl;
      sized = subst (λ (s : Sides). IsSizedAs (profile_of s.claim.widths) graph) is c.requires.sized;
      claim = ap (λ (s : Sides). s.claim) c.in_ok-operands.ensures;
      well_formed = c.max-max.ensures.built.well_formed;
      version = c.requires.version;
    }

pub returns-clause-decision : goal.returns-clause-decision
returns-clause-decision c =
    let task = c.args.task.now in
    let graph = c.args.graph.now in
    let d = c.in_ok-decision.decision in
    let r = c.in_ok-rewritten.rewritten in
    let found = c.in_ok-decision.found in
    subst (λ n. IsDecision graph task (replacement_of n) d) {x = note_of (has_addend task.claim.widths) r found} (sym (c.make_note.ensures ∙ ap (λ add. note_of add r found) c.has_addend.ensures))
    (subst (λ r. IsDecision graph task r d) (replacement_of_note (has_addend task.claim.widths) r found) c.in_ok-decision.ensures.decision)

pub returns-clause-note : goal.returns-clause-note
returns-clause-note c =
    let graph = c.args.graph.now in
    let task = c.args.task.now in
    let s = c.in_ok-operands.operands in
    let r = c.in_ok-rewritten.rewritten in
    let found = c.in_ok-decision.found in
    subst (IsNote graph task.claim task.conflicts) {x = note_of (has_addend task.claim.widths) r found} (sym (c.make_note.ensures ∙ ap (λ add. note_of add r found) c.has_addend.ensures))
    (subst (λ (t : Sides). IsNote graph t.claim task.conflicts (note_of (has_addend t.claim.widths) r found)) c.in_ok-operands.ensures
    (note_is graph s task.conflicts r found
    (subst (AreOperandsOf graph) (sym c.in_ok-operands.ensures) refl) c.in_ok-rewritten.ensures.rewriting c.in_ok-rewritten.ensures.agrees c.in_ok-decision.ensures.found))
