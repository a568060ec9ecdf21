use Rattle.std.proofs.Common.{◌≡◌, ℕ, Bool, List, Option, sym, subst}
use Rattle.aiger_reader.specs.Refusals.{SpellsWithin}
use Rattle.command_core.specs.Stopping.{IsGraphStop, IsStop}
use Rattle.command_core.specs.declared.stop.Stop.{Stop}
use Rattle.graph_core.specs.declared.profile.Profile.{Profile}
use Rattle.std.specs.Option.{IfSome}
use Rattle.algebra_core.specs.AlgebraLines.{specification}
use Rattle.graph_core.specs.Graph.Extended.{modulus}
use Rattle.graph_core.specs.Graph.{Aig}
use Rattle.mv_desk.specs.declared.slot.Slot.TheVariants as slot
use Rattle.mv_fact.specs.Always.{Always}
use Rattle.poly_text.specs.Recorded.{lines_in}
use Rattle.algebra_judge.specs.Records.{IsRecordOf}
use Rattle.std.proofs.lemmas.Result.{err_from_is_err_and}
use Rattle.graph_core.specs.Aiger.Sizes.{IsSizedAs}
use Rattle.graph_core.specs.Graph.Operands.{profile_of, sides_for}
use Rattle.graph_core.proofs.OfAiger.CallerLemmas.{shape_for}
use Rattle.mv_desk.specs.View.{View, bytes_under}
use Rattle.mv_desk.proofs.CallerLemmas.{Inspects-trans, KeepsTelling-trans, OpensFiles-trans}
use Rattle.mv_text.specs.LineReading.{lengths_of}
use Rattle.command_core.specs.Files.{files_of}
use Rattle.joint_checker.specs.declared.checked.Checked.TheVariants as checked
use Rattle.joint_checker.specs.Shown.{premises_of}
use Rattle.joint_checker.proofs.Joined.{graph_is, shown_fits, vanishing_does}
use Rattle.joint_checker.proofs.Needs.{accepted_needed, algebra_needed, clauses_needed, graph_needed}
use Rattle.joint_checker.proofs.Opened.{algebra_opened, clauses_opened, graph_opened}
use Rattle.joint_checker.proofs.OutcomeRows.{accepts, algebra_answers, algebra_refuses, clauses_answer, clauses_refuse, graph_answers}
use Rattle.joint_checker.proofs.JudgedPairs.{is_judged, is_told}
use Rattle.command_core.proofs.CallerLemmas.{told_earlier, told_later}
use Rattle.joint_checker.proofs.checking.judge_pair.Goals as goal

-- ---- the profile that a claim asks for

spelled_for : (p q : Profile) (limit : ℕ) (text : Option (List ℕ)) (g : Aig) → p ≡ q → IfSome text (λ bytes. SpellsWithin p limit bytes g) → IfSome text (λ bytes. SpellsWithin q limit bytes g)
spelled_for p q limit text g same h = subst (λ p. IfSome text (λ bytes. SpellsWithin p limit bytes g)) same h

sized_for : (p q : Profile) (g : Aig) → p ≡ q → IsSizedAs p g → IsSizedAs q g
sized_for p q g same h = subst (λ p. IsSizedAs p g) same h

stopped_for : (p q : Profile) (limit : ℕ) (text : Option (List ℕ)) (before now : View) (why : Stop) → p ≡ q → IsStop (IsGraphStop slot.Graph p limit text) before now why → IsStop (IsGraphStop slot.Graph q limit text) before now why
stopped_for p q limit text before now why same h = subst (λ p. IsStop (IsGraphStop slot.Graph p limit text) before now why) same h

-- ---- the graph file

pub returns-in_err-graph-clause-outcome : goal.returns-in_err-graph-clause-outcome
returns-in_err-graph-clause-outcome g c =
    let p = err_from_is_err_and c.from_residual.result c.from_residual.ensures.1 in
    rw (p.1, p.2)
    (graph_answers c.args.limits.now c.args.claim (files_of c.args.names.now) (g.D.Desk.seen c.args.desk.now) (g.D.Desk.seen c.read_graph.new.desk) c.in_err-graph.field-0.0 (stopped_for _ _ _ _ (g.D.Desk.seen c.args.desk.now) (g.D.Desk.seen c.read_graph.new.desk) _ c.profile.ensures c.in_err-graph.ensures.refused))

pub returns-in_err-graph-clause-opens : goal.returns-in_err-graph-clause-opens
returns-in_err-graph-clause-opens g c =
    let p = err_from_is_err_and c.from_residual.result c.from_residual.ensures.1 in
    rw (p.1, p.2)
    (graph_needed c.args.limits.now c.args.claim (files_of c.args.names.now) (g.D.Desk.seen c.args.desk.now) (g.D.Desk.seen c.read_graph.new.desk) (checked.Stopped c.in_err-graph.field-0.0) c.read_graph.ensures.opens.others)

pub returns-in_err-graph-clause-opened : goal.returns-in_err-graph-clause-opened
returns-in_err-graph-clause-opened g c =
    let first = g.D.Desk.seen c.args.desk.now in
    let second = g.D.Desk.seen c.read_graph.new.desk in
    let limits = c.args.limits.now in
    let p = err_from_is_err_and c.from_residual.result c.from_residual.ensures.1 in
    rw (p.1, p.2)
    (graph_opened first first second (profile_of c.args.claim.widths) limits.graph (bytes_under first (files_of c.args.names.now).graph) c.in_err-graph.field-0.0 (stopped_for _ _ _ _ (g.D.Desk.seen c.args.desk.now) (g.D.Desk.seen c.read_graph.new.desk) _ c.profile.ensures c.in_err-graph.ensures.refused) c.read_graph.ensures.opens.opened)

-- ---- the clause file

pub returns-in_err-shown-clause-outcome : goal.returns-in_err-shown-clause-outcome
returns-in_err-shown-clause-outcome g c =
    let p = err_from_is_err_and c.from_residual-in_err-shown.result c.from_residual-in_err-shown.ensures.1 in
    rw (p.1, p.2)
    (clauses_answer c.args.limits.now c.args.claim (files_of c.args.names.now) (g.D.Desk.seen c.args.desk.now) (g.D.Desk.seen c.read_graph.new.desk) (g.D.Desk.seen c.check_clauses.new.desk) c.read_graph.ensures.inspects c.in_ok-graph.graph
    (spelled_for _ _ _ _ _ c.profile.ensures c.in_ok-graph.ensures.spelled) c.in_err-shown.field-0.0 c.in_err-shown.ensures.refused)

pub returns-in_err-shown-clause-opens : goal.returns-in_err-shown-clause-opens
returns-in_err-shown-clause-opens g c =
    let p = err_from_is_err_and c.from_residual-in_err-shown.result c.from_residual-in_err-shown.ensures.1 in
    rw (p.1, p.2)
    (clauses_needed c.args.limits.now c.args.claim (files_of c.args.names.now) (g.D.Desk.seen c.args.desk.now) (g.D.Desk.seen c.read_graph.new.desk) (g.D.Desk.seen c.check_clauses.new.desk) c.read_graph.ensures.opens.others
    c.check_clauses.ensures.reads.others c.in_ok-graph.graph (spelled_for _ _ _ _ _ c.profile.ensures c.in_ok-graph.ensures.spelled) c.in_err-shown.field-0.0 c.in_err-shown.ensures.refused)

pub returns-in_err-shown-clause-opened : goal.returns-in_err-shown-clause-opened
returns-in_err-shown-clause-opened g c =
    let first = g.D.Desk.seen c.args.desk.now in
    let second = g.D.Desk.seen c.read_graph.new.desk in
    let third = g.D.Desk.seen c.check_clauses.new.desk in
    let p = err_from_is_err_and c.from_residual-in_err-shown.result c.from_residual-in_err-shown.ensures.1 in
    rw (p.1, p.2)
    (clauses_opened first second third (lengths_of c.args.limits.now) c.in_ok-graph.graph (bytes_under second (files_of c.args.names.now).clauses) c.in_err-shown.field-0.0 c.in_err-shown.ensures.refused
    (OpensFiles-trans 1 1 first second third c.read_graph.ensures.opens.opened c.check_clauses.ensures.reads.opened))

-- ---- the algebra file

pub check_algebra-requires-clause-sized : goal.check_algebra-requires-clause-sized
check_algebra-requires-clause-sized g c =
    subst (IsSizedAs (profile_of c.args.claim.widths)) (sym (graph_is c.in_ok-graph.graph (premises_of c.in_ok-shown.shown) (shown_fits c.in_ok-graph.graph c.in_ok-shown.shown c.in_ok-shown.ensures.of_graph))) (sized_for _ _ _ c.profile.ensures c.in_ok-graph.ensures.sized)

pub check_algebra-requires-clause-columns : goal.check_algebra-requires-clause-columns
check_algebra-requires-clause-columns g c = c.in_ok-shown.ensures.of_graph.columns

pub check_algebra-requires-clause-facts : goal.check_algebra-requires-clause-facts
check_algebra-requires-clause-facts g c = c.in_ok-shown.ensures.of_graph.facts

pub returns-in_err-closed-clause-outcome : goal.returns-in_err-closed-clause-outcome
returns-in_err-closed-clause-outcome g c =
    let first = g.D.Desk.seen c.args.desk.now in
    let second = g.D.Desk.seen c.read_graph.new.desk in
    let third = g.D.Desk.seen c.check_clauses.new.desk in
    let last = g.D.Desk.seen c.check_algebra.new.desk in
    let graph = c.in_ok-graph.graph in
    let shown = c.in_ok-shown.shown in
    let same = err_from_is_err_and c.from_residual-in_err-closed.result c.from_residual-in_err-closed.ensures.1 in
    rw (same.1, same.2)
    (algebra_answers c.args.limits.now c.args.claim (files_of c.args.names.now) first second third last c.read_graph.ensures.inspects c.check_clauses.ensures.reads.inspects graph (premises_of shown) (shown_fits graph shown c.in_ok-shown.ensures.of_graph)
    (spelled_for _ _ _ _ _ c.profile.ensures c.in_ok-graph.ensures.spelled) c.in_ok-shown.ensures.gives c.in_err-closed.field-0.0 c.in_err-closed.ensures.refused)

pub returns-in_err-closed-clause-opens : goal.returns-in_err-closed-clause-opens
returns-in_err-closed-clause-opens g c =
    let first = g.D.Desk.seen c.args.desk.now in
    let second = g.D.Desk.seen c.read_graph.new.desk in
    let third = g.D.Desk.seen c.check_clauses.new.desk in
    let last = g.D.Desk.seen c.check_algebra.new.desk in
    let shown = c.in_ok-shown.shown in
    let p = premises_of shown in
    let same = err_from_is_err_and c.from_residual-in_err-closed.result c.from_residual-in_err-closed.ensures.1 in
    rw (same.1, same.2)
    (algebra_needed c.args.limits.now c.args.claim (files_of c.args.names.now) first second third c.read_graph.ensures.opens.others c.check_clauses.ensures.reads.others c.in_ok-graph.graph (spelled_for _ _ _ _ _ c.profile.ensures c.in_ok-graph.ensures.spelled) last c.check_algebra.ensures.reads.others
    c.read_graph.ensures.inspects p (shown_fits c.in_ok-graph.graph shown c.in_ok-shown.ensures.of_graph) c.in_ok-shown.ensures.gives (sides_for c.args.claim p.extended.graph) c.in_err-closed.field-0.0 c.in_err-closed.ensures.refused)

pub returns-in_err-closed-clause-opened : goal.returns-in_err-closed-clause-opened
returns-in_err-closed-clause-opened g c =
    let first = g.D.Desk.seen c.args.desk.now in
    let second = g.D.Desk.seen c.read_graph.new.desk in
    let third = g.D.Desk.seen c.check_clauses.new.desk in
    let last = g.D.Desk.seen c.check_algebra.new.desk in
    let p = premises_of c.in_ok-shown.shown in
    let opened = OpensFiles-trans 2 1 first third last (OpensFiles-trans 1 1 first second third c.read_graph.ensures.opens.opened c.check_clauses.ensures.reads.opened) c.check_algebra.ensures.reads.opened in
    let same = err_from_is_err_and c.from_residual-in_err-closed.result c.from_residual-in_err-closed.ensures.1 in
    rw (same.1, same.2)
    (algebra_opened first third last (lengths_of c.args.limits.now) p (sides_for c.args.claim p.extended.graph) (bytes_under third (files_of c.args.names.now).algebra) c.in_err-closed.field-0.0 c.in_err-closed.ensures.refused opened)

-- ---- an accepted pair

pub returns : goal.returns
returns g c =
    let first = g.D.Desk.seen c.args.desk.now in
    let second = g.D.Desk.seen c.read_graph.new.desk in
    let third = g.D.Desk.seen c.check_clauses.new.desk in
    let last = g.D.Desk.seen c.check_algebra.new.desk in
    let limits = c.args.limits.now in
    let claim = c.args.claim in
    let files = files_of c.args.names.now in
    let graph = c.in_ok-graph.graph in
    let shown = c.in_ok-shown.shown in
    let closed = c.in_ok-closed.closed in
    let p = premises_of shown in
    let fits = c.in_ok-shown.ensures.of_graph in
    let of = shown_fits graph shown fits in
    let well = c.in_ok-graph.ensures.built.well_formed in
    let spelled = spelled_for _ _ _ _ _ c.profile.ensures c.in_ok-graph.ensures.spelled in
    let sized = sized_for _ _ _ c.profile.ensures c.in_ok-graph.ensures.sized in
    let shape = shape_for claim.widths graph sized in
    let reads = c.check_clauses.ensures.reads in
    let ends = c.check_algebra.ensures.reads in
    let inspects = c.read_graph.ensures.inspects in
    let opens = c.read_graph.ensures.opens in
    let parts = c.parts_of-header in
    record {
      outcome = accepts limits claim files first second third last inspects reads.inspects graph p of spelled c.in_ok-shown.ensures.gives well shape c.in_ok-closed.ensures.lawful c.in_ok-closed.ensures.vanishes;
      opens = accepted_needed limits claim files first second third opens.others reads.others graph spelled last ends.others inspects p of c.in_ok-shown.ensures.gives;
      opened = OpensFiles-trans 2 1 first third last (OpensFiles-trans 1 1 first second third opens.opened reads.opened) ends.opened;
      inspects = Inspects-trans first third last (Inspects-trans first second third inspects reads.inspects) ends.inspects;
      tells = KeepsTelling-trans first third last (KeepsTelling-trans first second third opens.tells reads.tells) ends.tells;
      not_accepted = tt;
      clauses_named = told_later slot.Clauses files.clauses first third last
          (told_earlier slot.Clauses files.clauses first second third (opens.others slot.Clauses (λ e. cc)) (inspects.held files.clauses) reads.named) (ends.others slot.Clauses (λ e. cc));
      algebra_named = told_earlier slot.Algebra files.algebra first second last (opens.others slot.Algebra (λ e. cc)) (inspects.held files.algebra)
          (told_earlier slot.Algebra files.algebra second third last (reads.others slot.Algebra (λ e. cc)) (reads.inspects.held files.algebra) ends.named);
      judged = λ yes. is_judged claim graph shown fits sized c.in_ok-graph.ensures.built
          (vanishing_does graph claim p well shape of (subst (λ (x : Aig). Always shown.extended.gates (λ σ. specification shown.extended (sides_for claim x) σ ≡ 0)) (graph_is graph p of) c.in_ok-closed.ensures.vanishes))
          (c.in_ok-shown.ensures.shown yes) (c.in_ok-shown.ensures.chains yes) fits.earlier closed (c.in_ok-closed.ensures.recorded yes) parts.result.0 parts.result.1 parts.ensures.header parts.ensures.recorded parts.result.2;
      told = λ yes. is_told claim graph shown fits limits files first second third inspects reads.inspects spelled (c.in_ok-shown.ensures.adds yes) closed
          (subst (λ (b : Bool). IfSome (bytes_under third files.algebra) (λ bytes. IsRecordOf b shown.header.version (modulus shown.extended) bytes (lines_in closed.record.terms closed.record.lines.items) closed.id closed.lines)) yes c.in_ok-closed.ensures.told)
          parts.result.0 parts.result.1 parts.result.2 parts.ensures.header parts.ensures.recorded parts.ensures.lines;
    }

-- ---- the desk

pub returns-in_err-shown-clause-inspects : goal.returns-in_err-shown-clause-inspects
returns-in_err-shown-clause-inspects g c =
    Inspects-trans (g.D.Desk.seen c.args.desk.now) (g.D.Desk.seen c.read_graph.new.desk) (g.D.Desk.seen c.check_clauses.new.desk) c.read_graph.ensures.inspects c.check_clauses.ensures.reads.inspects

pub returns-in_err-shown-clause-tells : goal.returns-in_err-shown-clause-tells
returns-in_err-shown-clause-tells g c =
    KeepsTelling-trans (g.D.Desk.seen c.args.desk.now) (g.D.Desk.seen c.read_graph.new.desk) (g.D.Desk.seen c.check_clauses.new.desk) c.read_graph.ensures.opens.tells c.check_clauses.ensures.reads.tells

pub returns-in_err-closed-clause-clauses_named : goal.returns-in_err-closed-clause-clauses_named
returns-in_err-closed-clause-clauses_named g c =
    let first = g.D.Desk.seen c.args.desk.now in
    let second = g.D.Desk.seen c.read_graph.new.desk in
    let third = g.D.Desk.seen c.check_clauses.new.desk in
    let name = c.args.names.now.clauses.now in
    told_later slot.Clauses name first third (g.D.Desk.seen c.check_algebra.new.desk)
    (told_earlier slot.Clauses name first second third (c.read_graph.ensures.opens.others slot.Clauses (λ e. cc)) (c.read_graph.ensures.inspects.held name) c.check_clauses.ensures.reads.named) (c.check_algebra.ensures.reads.others slot.Clauses (λ e. cc))

pub returns-in_err-closed-clause-algebra_named : goal.returns-in_err-closed-clause-algebra_named
returns-in_err-closed-clause-algebra_named g c =
    let first = g.D.Desk.seen c.args.desk.now in
    let second = g.D.Desk.seen c.read_graph.new.desk in
    let third = g.D.Desk.seen c.check_clauses.new.desk in
    let last = g.D.Desk.seen c.check_algebra.new.desk in
    let name = c.args.names.now.algebra.now in
    told_earlier slot.Algebra name first second last (c.read_graph.ensures.opens.others slot.Algebra (λ e. cc)) (c.read_graph.ensures.inspects.held name)
    (told_earlier slot.Algebra name second third last (c.check_clauses.ensures.reads.others slot.Algebra (λ e. cc)) (c.check_clauses.ensures.reads.inspects.held name) c.check_algebra.ensures.reads.named)

-- ---- no refusal accepts

pub returns-in_err-graph-clause-not_accepted : goal.returns-in_err-graph-clause-not_accepted
returns-in_err-graph-clause-not_accepted g c =
    let same = err_from_is_err_and c.from_residual.result c.from_residual.ensures.1 in
    rw (same.1, same.2) (λ e. cc)

pub returns-in_err-shown-clause-not_accepted : goal.returns-in_err-shown-clause-not_accepted
returns-in_err-shown-clause-not_accepted g c =
    let same = err_from_is_err_and c.from_residual-in_err-shown.result c.from_residual-in_err-shown.ensures.1 in
    rw (same.1, same.2) (clauses_refuse c.in_err-shown.field-0.0)

pub returns-in_err-closed-clause-not_accepted : goal.returns-in_err-closed-clause-not_accepted
returns-in_err-closed-clause-not_accepted g c =
    let same = err_from_is_err_and c.from_residual-in_err-closed.result c.from_residual-in_err-closed.ensures.1 in
    rw (same.1, same.2) (algebra_refuses c.in_err-closed.field-0.0)
