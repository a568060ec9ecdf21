use Rattle.std.proofs.Common.{rules, ◌≡◌, ◌++◌, List, sym, ap, subst, ◌∙◌}
use Rattle.std.specs.Prelude.{IsSome, true}
use Rattle.std.proofs.lemmas.Result.{on_ok_weaker}
use Rattle.poly_text.specs.declared.line.PacLine.{PacLine}
use Rattle.poly_text.specs.Lines.{AreOf, line_in}
use Rattle.pac_checker.specs.Checking.{GrowsCheckedTable, IsRecordable, TakesPacLine}
use Rattle.pac_checker.specs.Faults.{IsPacLineFault}
use Rattle.pac_checker.specs.Recording.{kept_of}
use Rattle.pac_checker.proofs.Lawful.{on_err}
use Rattle.pac_checker.proofs.Recordings.{Keeps, either_way, keeps_grown, keeps_passed, keeps_taken, seen, seen_grows, seen_passes, seen_same, seen_takes}
use Rattle.pac_checker.proofs.checker.PacChecker.line.Goals as goal

-- ---- nothing is recorded

pub invariant_of-self : goal.invariant_of-self
invariant_of-self c =
    let old = c.self.inside.judge in
    let new = c.line.new.self in
    let goes_on : IsSome (line_in old.table c.args.line) = rw (← c.self.view_is) at c.requires.goes_on in
    either_way c.line.result (TakesPacLine c.args.line old new) (GrowsCheckedTable old new) (Keeps new c.self.inside.records c.self.inside.recorded.items)
    (λ takes. keeps_passed old new c.self.inside.recorded.items c.args.line goes_on takes c.self.inside.records c.if-not-self.true c.self.invariant) (λ grown. keeps_grown old new c.self.inside.records c.self.inside.recorded.items grown c.self.invariant)
    c.line.ensures.taken c.line.ensures.unchanged

pub returns-then-not-self-clause-taken : goal.returns-then-not-self-clause-taken
returns-then-not-self-clause-taken c =
    let old = c.self.inside.judge in
    let goes_on : IsSome (line_in old.table c.args.line) = rw (← c.self.view_is) at c.requires.goes_on in
    rw (← c.self.view_is)
    (on_ok_weaker c.line.result (λ takes. seen_passes old c.line.new.self c.self.inside.recorded.items c.args.line goes_on takes c.self.inside.records c.if-not-self.true c.self.invariant) c.line.ensures.taken)

pub returns-then-not-self-clause-refused : goal.returns-then-not-self-clause-refused
returns-then-not-self-clause-refused c = rw (← c.self.view_is) c.line.ensures.refused

-- ---- lines are recorded

pub returns-in-Err-clause-unchanged : goal.returns-in-Err-clause-unchanged
returns-in-Err-clause-unchanged c = rw (← c.self.view_is) (seen_same c.self.inside.judge c.self.inside.records c.self.inside.recorded.items c.try_reserve.new.self.items c.try_reserve.ensures.items)

pub invariant_of-self-in_err-line : goal.invariant_of-self-in_err-line
invariant_of-self-in_err-line c =
    keeps_grown c.self.inside.judge c.line-2.new.self c.self.inside.records c.try_reserve.new.self.items c.in_err-line.ensures.unchanged (subst (λ (xs : List PacLine). Keeps c.self.inside.judge c.self.inside.records xs) (sym c.try_reserve.ensures.items) c.self.invariant)

pub returns-in_err-line-clause-refused : goal.returns-in_err-line-clause-refused
returns-in_err-line-clause-refused c =
    let refused : IsPacLineFault c.args.self.now c.args.line c.in_err-line.field-0.0 = rw (← c.self.view_is) c.in_err-line.ensures.refused in search rules

pub returns-in_err-line-clause-unchanged : goal.returns-in_err-line-clause-unchanged
returns-in_err-line-clause-unchanged c =
    let old = c.self.inside.judge in
    let new = c.line-2.new.self in
    let room = c.try_reserve.new.self.items in
    on_err c.from_residual.result _
    (rw (← c.self.view_is)
    (subst (λ (xs : List PacLine). GrowsCheckedTable (seen old c.self.inside.records xs) (seen new c.self.inside.records room)) c.try_reserve.ensures.items
    (seen_grows old new c.self.inside.records room c.in_err-line.ensures.unchanged (subst (λ (xs : List PacLine). Keeps old c.self.inside.records xs) (sym c.try_reserve.ensures.items) c.self.invariant))))

pub invariant_of-self-2 : goal.invariant_of-self-2
invariant_of-self-2 c =
    let old = c.self.inside.judge in
    let new = c.line-2.new.self in
    let line = c.args.line in
    let goes_on : IsSome (line_in old.table line) = rw (← c.self.view_is) at c.requires.goes_on in
    let has : AreOf old.table line = rw (← c.self.view_is) at c.requires.of_table in
    let ok : c.self.inside.records ≡ true → IsRecordable old.extended.max old.table line = rw (← c.self.view_is) at c.requires.recordable in
    subst (λ (xs : List PacLine). Keeps new c.self.inside.records xs) (sym (c.keep.ensures ∙ ap (λ xs. xs ++ kept_of line) c.try_reserve.ensures.items))
    (keeps_taken old new c.self.inside.recorded.items line goes_on c.in_ok-line.ensures.taken has (ok c.if-not-self.false) c.self.inside.records c.if-not-self.false c.self.invariant)

pub returns-clause-taken : goal.returns-clause-taken
returns-clause-taken c =
    let old = c.self.inside.judge in
    let new = c.line-2.new.self in
    let line = c.args.line in
    let goes_on : IsSome (line_in old.table line) = rw (← c.self.view_is) at c.requires.goes_on in
    let has : AreOf old.table line = rw (← c.self.view_is) at c.requires.of_table in
    let ok : c.self.inside.records ≡ true → IsRecordable old.extended.max old.table line = rw (← c.self.view_is) at c.requires.recordable in
    rw (← c.self.view_is)
    (subst (λ (xs : List PacLine). TakesPacLine line (seen old c.self.inside.records c.self.inside.recorded.items) (seen new c.self.inside.records xs)) (sym (c.keep.ensures ∙ ap (λ xs. xs ++ kept_of line) c.try_reserve.ensures.items))
    (seen_takes old new c.self.inside.recorded.items line goes_on c.in_ok-line.ensures.taken has (ok c.if-not-self.false) c.self.inside.records c.if-not-self.false c.self.invariant))
