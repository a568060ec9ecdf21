use Rattle.std.proofs.Common.{◌∙◌, ◌++◌, ◌≡◌, ◌+◌, ◌<◌, ◌∷◌, [], IfOk, None, Ok, OnOk, ap, arith, length, length-append, refl, subst, sym}
use Rattle.std.specs.Result.{result_err}
use Rattle.graph_core.specs.Graph.Extended.{Extended, without_cut}
use Rattle.mv_desk.proofs.CallerLemmas.{KeepsTelling-refl, ReadsOnly-refl}
use Rattle.mv_desk.specs.declared.slot.Slot.TheVariants.{Clauses}
use Rattle.mv_text.specs.CertificateFiles.{FileState, KeepsFile, settled}
use Rattle.ripple_graft.specs.Beside.{AreGates, with_gate, with_gates}
use Rattle.drup_text.specs.HeaderSteps.{ReadsHeaderPart, line_part, listed_part}
use Rattle.drup_text.specs.Listings.{gate_listing}
use Rattle.drup_text.specs.ClauseTexts.{IsPairLine}
use Rattle.drup_text.specs.LineTexts.{IsPairOf}
use Rattle.drup_text.proofs.BesideSteps.{gates_more_fit, gate_room}
use Rattle.drup_text.proofs.HeaderSteps.{keeps_on, keeps_settled, nothing_yet, part_behind, part_settled, reads_both, refused_behind}
use Rattle.drup_text.proofs.ListedSteps.{all_more, listed_on, listed_read, listed_refused, listed_so_far, none_listed}
use Rattle.drup_text.proofs.beside.counted_gates.Goals as goal

pub loop-init : goal.loop-init
loop-init g c =
    let start = without_cut c.args.graph.now in
    let before = g.D.Desk.seen c.args.desk.now in
    let none = c.new-gates.ensures.items in
    record {
      «open» = c.requires.open;
      so_far = nothing_yet (listed_so_far gate_listing start c.args.count) c.args.file.now before c.new-gates.result (ap length none) (none_listed gate_listing start c.args.count c.new-gates.result none) c.requires.goes_on.ended;
      many = ap length none;
      made = c.without_cut-extended.ensures ∙ ap (with_gates start) (sym none);
      fit = subst (AreGates start) (sym none) tt;
      keeps = record { version = refl; lengths = refl; failed = c.requires.goes_on.failed; piece = c.requires.piece };
      reads = record { only = ReadsOnly-refl Clauses before; stands = refl; tells = KeepsTelling-refl before };
    }

pub append_gate-requires-clause-room : goal.append_gate-requires-clause-room
append_gate-requires-clause-room g c =
    let few : length c.loop.gates.items < c.args.count = subst (λ n. n < c.args.count) (sym c.loop.invariant.many) c.loop-test.true in
    gate_room c.args.graph.now c.loop.extended c.loop.gates.items c.loop.invariant.made (let most = c.requires.few in omega (arith, few, most))

pub loop-preserved : goal.loop-preserved
loop-preserved g c =
    let start = without_cut c.args.graph.now in
    let before = g.D.Desk.seen c.args.desk.now in
    let between = g.D.Desk.seen c.loop.desk in
    let now = g.D.Desk.seen c.next_pair.new.desk in
    let so_far = listed_so_far gate_listing start c.args.count in
    let xs = c.loop.gates in
    let longer = c.append_gate.new.gates in
    let one = c.in-Ok.pair in
    let mid = c.next_pair.new.file in
    let many = c.loop.invariant.many in
    let read = sym c.in-Ok-settle.ensures.read in
    let made : longer.items ≡ xs.items ++ one ∷ [] = subst (λ r. OnOk r (longer.items ≡ xs.items ++ one ∷ [])) read c.append_gate.ensures.more in
    let next : c.in-Ok-settle.longer ≡ with_gate c.loop.extended one = subst (λ r. IfOk r (λ (e : Extended). e ≡ with_gate c.loop.extended one)) read c.append_gate.ensures.ok in
    let more : length longer.items ≡ length xs.items + 1 = ap length made ∙ length-append xs.items (one ∷ []) in
    let file_is : settled mid None ≡ c.settle.new.self = sym (c.settle.ensures.settled ∙ ap (λ r. settled mid (result_err r)) read) in
    let early : length xs.items < c.args.count = subst (λ n. n < c.args.count) (sym many) c.loop-test.true in
    let reads = c.in-Ok.ensures.reads in
    record {
      «open» = reads.only.mode.reads ∙ c.loop.invariant.open;
      so_far = subst (λ (f : FileState). ReadsHeaderPart so_far c.args.file.now f before now (Ok longer)) file_is
          (part_settled so_far None longer
          (part_behind so_far (line_part IsPairLine (IsPairOf c.loop.extended)) so_far xs c.loop.invariant.keeps.lengths c.loop.invariant.so_far one longer more
          (λ IsLong bytes rest body passed here. listed_on gate_listing start c.loop.extended c.args.count xs early c.loop.invariant.made IsLong bytes rest passed longer one body made here) c.in-Ok.ensures.pair));
      many = omega (arith, more, many);
      made = next ∙ ap (λ (e : Extended). with_gate e one) c.loop.invariant.made ∙ sym (all_more gate_listing start xs.items one) ∙ ap (with_gates start) (sym made);
      fit = subst (AreGates start) (sym made) (gates_more_fit start xs.items one c.loop.invariant.fit (subst (λ (e : Extended). IsPairOf e one) c.loop.invariant.made c.in-Ok.ensures.known));
      keeps = subst (λ (f : FileState). KeepsFile c.args.file.now f (Ok longer)) file_is (keeps_settled one (Ok longer) (keeps_on xs (Ok one) c.loop.invariant.keeps c.in-Ok.ensures.keeps));
      reads = reads_both before between now xs one longer c.loop.invariant.reads reads;
    }

pub returns-in-Err-clause-gates : goal.returns-in-Err-clause-gates
returns-in-Err-clause-gates g c =
    let start = without_cut c.args.graph.now in
    let xs = c.loop.gates in
    let early : length xs.items < c.args.count = subst (λ n. n < c.args.count) (sym c.loop.invariant.many) c.loop-test.true in
    refused_behind (listed_so_far gate_listing start c.args.count) (line_part IsPairLine (IsPairOf c.loop.extended)) (listed_part gate_listing start c.args.count) xs c.loop.invariant.keeps.lengths c.loop.invariant.so_far c.in-Err.fail c.loop.invariant.reads.stands
    (λ IsLong bytes rest p passed refused. listed_refused gate_listing start c.loop.extended c.args.count xs early c.loop.invariant.made IsLong bytes rest passed c.args.file.now.number p refused) c.in-Err.ensures.pair

pub returns-clause-gates : goal.returns-clause-gates
returns-clause-gates g c = listed_read gate_listing (without_cut c.args.graph.now) c.loop.extended c.args.count c.loop.gates c.loop.invariant.so_far
