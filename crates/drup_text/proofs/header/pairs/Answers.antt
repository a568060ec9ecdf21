use Rattle.std.proofs.Common.{◌∙◌, ◌++◌, ◌≡◌, ◌+◌, ◌<◌, ◌∷◌, [], All, None, Ok, ap, arith, length, length-append, refl, subst, sym}
use Rattle.std.proofs.lemmas.List.Elements.{All-nil, All-push}
use Rattle.std.specs.Result.{OnOk, result_err}
use Rattle.mv_desk.proofs.CallerLemmas.{KeepsTelling-refl, ReadsOnly-refl}
use Rattle.mv_desk.specs.declared.slot.Slot.TheVariants.{Clauses}
use Rattle.mv_text.specs.CertificateFiles.{FileState, KeepsFile, settled}
use Rattle.drup_text.specs.ClauseTexts.{IsPairLine}
use Rattle.drup_text.specs.HeaderSteps.{ReadsHeaderPart, line_part, pairs_part}
use Rattle.drup_text.specs.LineTexts.{IsPairOf}
use Rattle.drup_text.proofs.HeaderSteps.{keeps_on, keeps_settled, no_pairs, nothing_yet, pair_on, pair_refused, pairs_all, pairs_so_far, part_behind, part_settled, reads_both, refused_behind, same_part}
use Rattle.drup_text.proofs.header.pairs.Goals as goal

pub loop-init : goal.loop-init
loop-init g c =
    let e = c.args.extended.now in
    let before = g.D.Desk.seen c.args.desk.now in
    let none = c.new-pairs.ensures.items in
    record {
      «open» = c.requires.open;
      so_far = nothing_yet (pairs_so_far e c.args.count) c.args.file.now before c.new-pairs.result (ap length none) (no_pairs e c.args.count c.new-pairs.result none) c.requires.goes_on.ended;
      many = ap length none;
      known = subst (All (IsPairOf e)) (sym none) (All-nil (IsPairOf e));
      keeps = record { version = refl; lengths = refl; failed = c.requires.goes_on.failed; piece = c.requires.piece };
      reads = record { only = ReadsOnly-refl Clauses before; stands = refl; tells = KeepsTelling-refl before };
    }

pub loop-preserved : goal.loop-preserved
loop-preserved g c =
    let e = c.args.extended.now in
    let before = g.D.Desk.seen c.args.desk.now in
    let between = g.D.Desk.seen c.loop.desk in
    let now = g.D.Desk.seen c.next_pair.new.desk in
    let so_far = pairs_so_far e c.args.count in
    let pairs = c.loop.pairs in
    let longer = c.append.new.pairs in
    let pair = c.in-Ok.pair in
    let mid = c.next_pair.new.file in
    let many = c.loop.invariant.many in
    let read = sym c.in-Ok-settle.ensures.read in
    let made : longer.items ≡ pairs.items ++ pair ∷ [] = subst (λ r. OnOk r (longer.items ≡ pairs.items ++ pair ∷ [])) read c.append.ensures.ok in
    let one : length longer.items ≡ length pairs.items + 1 = ap length made ∙ length-append pairs.items (pair ∷ []) in
    let file_is : settled mid None ≡ c.settle.new.self = sym (c.settle.ensures.settled ∙ ap (λ r. settled mid (result_err r)) read) in
    let early : length pairs.items < c.args.count = subst (λ n. n < c.args.count) (sym many) c.loop-test.true in
    let reads = c.in-Ok.ensures.reads in
    record {
      «open» = reads.only.mode.reads ∙ c.loop.invariant.open;
      so_far = subst (λ (f : FileState). ReadsHeaderPart so_far c.args.file.now f before now (Ok longer)) file_is
          (part_settled so_far None longer
          (part_behind so_far (line_part IsPairLine (IsPairOf e)) so_far pairs c.loop.invariant.keeps.lengths c.loop.invariant.so_far pair longer one
          (λ IsLong bytes rest body passed here. pair_on e c.args.count IsLong bytes rest pairs early passed longer pair body made here) c.in-Ok.ensures.pair));
      many = omega (arith, one, many);
      known = subst (All (IsPairOf e)) (sym made) (All-push (IsPairOf e) pairs.items pair c.loop.invariant.known c.in-Ok.ensures.known);
      keeps = subst (λ (f : FileState). KeepsFile c.args.file.now f (Ok longer)) file_is (keeps_settled pair (Ok longer) (keeps_on pairs (Ok pair) c.loop.invariant.keeps c.in-Ok.ensures.keeps));
      reads = reads_both before between now pairs pair longer c.loop.invariant.reads reads;
    }

pub returns-in-Err-clause-pairs : goal.returns-in-Err-clause-pairs
returns-in-Err-clause-pairs g c =
    let e = c.args.extended.now in
    let early : length c.loop.pairs.items < c.args.count = subst (λ n. n < c.args.count) (sym c.loop.invariant.many) c.loop-test.true in
    refused_behind (pairs_so_far e c.args.count) (line_part IsPairLine (IsPairOf e)) (pairs_part e c.args.count) c.loop.pairs c.loop.invariant.keeps.lengths c.loop.invariant.so_far c.in-Err.fail c.loop.invariant.reads.stands
    (λ IsLong bytes rest p passed refused made. pair_refused e c.args.count IsLong bytes rest c.loop.pairs early passed made c.args.file.now.number p refused) c.in-Err.ensures.pair

pub returns-clause-pairs : goal.returns-clause-pairs
returns-clause-pairs g c =
    let e = c.args.extended.now in
    let many = c.loop.invariant.many in
    let last = c.loop.auto.counter-end in
    let stop = c.loop-test.false in
    same_part (pairs_so_far e c.args.count) (pairs_part e c.args.count) c.loop.pairs c.loop.pairs refl (pairs_all e c.args.count c.loop.pairs (omega arith)) c.loop.invariant.so_far
