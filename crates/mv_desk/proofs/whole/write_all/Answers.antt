use Rattle.std.proofs.Common.{◌++◌, ℕ, List, take, sym, ap, ◌∙◌, append_assoc, arith, [], refl, subst, ◌≤◌, ◌≡◌, length, eqb-true, append-nil}
use Rattle.mv_desk.proofs.CallerLemmas.{KeepsTelling-trans, WritesTo-trans, split_at, WritesTo-nil, KeepsTelling-refl, WritesTo-same}
use Rattle.std.proofs.Transfers.{starts_with_of_append}
use Rattle.std.proofs.lemmas.List.{nil_from_length}
use Rattle.mv_desk.specs.Calls.{WritesTo}
use Rattle.mv_desk.specs.View.{Rose}
use Rattle.mv_desk.proofs.whole.write_all.Goals as goal

pub loop-rest-preserved : goal.loop-rest-preserved
loop-rest-preserved g c =
    let kept = c.loop-rest.invariant in
    let did = c.in-Ok.ensures in
    record {
      part = kept.part ++ take c.in-Ok.count c.loop-rest.rest.now;
      all = kept.all ∙ (ap (λ (l : List ℕ). kept.part ++ l) (split_at _ _ _ (omega arith)) ∙
          sym (append_assoc kept.part (take c.in-Ok.count c.loop-rest.rest.now) _));
      writes = WritesTo-trans _ _ _ _ _ _ kept.writes did.writes;
      tells = KeepsTelling-trans _ _ _ kept.tells did.tells;
      write_faults = did.cause.stands ∙ kept.write_faults;
      read_faults = did.cause.read_faults ∙ kept.read_faults;
      opened = did.cause.opened ∙ kept.opened;
    }

pub loop-rest-init : goal.loop-rest-init
loop-rest-init g c =
    let a = g.D.Desk.seen c.args.desk.now in
    record { part = []; all = refl; writes = WritesTo-nil c.args.slot a; tells = KeepsTelling-refl a; write_faults = refl; read_faults = refl; opened = refl }

pub returns-in-Err : goal.returns-in-Err
returns-in-Err g c =
    let old = g.D.Desk.seen c.args.desk.now in
    let mid = g.D.Desk.seen c.loop-rest.desk in
    let new = g.D.Desk.seen c.write.new.self in
    let kept = c.loop-rest.invariant in
    let did = c.in-Err.ensures in
    record {
      whole = tt;
      part = record {
        part = kept.part;
        starts = starts_with_of_append c.args.bytes.now kept.part c.loop-rest.rest.now kept.all;
        writes = WritesTo-same c.args.slot kept.part old mid new kept.writes did.failed;
      };
      cause = record {
        later = subst (λ n. n ≤ new.write_faults) kept.write_faults did.cause.later;
        stands = tt;
        rose = subst (λ n. Rose n new.write_faults) kept.write_faults did.cause.rose;
        read_faults = did.cause.read_faults ∙ kept.read_faults;
        opened = did.cause.opened ∙ kept.opened;
      };
      tells = KeepsTelling-trans old mid new kept.tells did.tells;
    }

pub returns : goal.returns
returns g c =
    let kept = c.loop-rest.invariant in
    let none : c.loop-rest.rest.now ≡ [] = nil_from_length c.loop-rest.rest.now (eqb-true (length c.loop-rest.rest.now) 0 (sym c.is_empty.ensures ∙ c.loop-rest-test.false)) in
    let all : kept.part ≡ c.args.bytes.now = sym (kept.all ∙ ap (λ (l : List ℕ). kept.part ++ l) none ∙ append-nil kept.part) in
    record {
      whole = subst (λ p. WritesTo c.args.slot p (g.D.Desk.seen c.args.desk.now) (g.D.Desk.seen c.loop-rest.desk)) all kept.writes;
      part = tt;
      cause = record {
        later = omega (arith, kept.write_faults);
        stands = kept.write_faults;
        rose = tt;
        read_faults = kept.read_faults;
        opened = kept.opened;
      };
      tells = kept.tells;
    }
