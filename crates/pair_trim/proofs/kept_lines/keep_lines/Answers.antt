use Rattle.std.proofs.Common.{◌≡◌, ◌++◌, ℕ, Bool, List, false, map, take, drop, length, replicate, sym, ap, subst, ◌∙◌, arith, rules}
use Rattle.drup_checker.proofs.LiveClauses.{written}
use Rattle.poly_text.specs.declared.line.PacLine.{PacLine}
use Rattle.poly_text.specs.Recorded.{ids_in, operands_in}
use Rattle.clause_core.specs.KeptClauses.{AreEarlier, chosen}
use Rattle.pair_trim.specs.Lines.{AreAllUses, MarksClosing}
use Rattle.pair_trim.proofs.PacOperands.{lines_kept, uses_earlier}
use Rattle.pair_trim.proofs.kept_lines.keep_lines.Goals as goal

pub mark_closing-requires-clause-earlier : goal.mark_closing-requires-clause-earlier
mark_closing-requires-clause-earlier c =
    let lines = c.args.lines.items in
    let ids = c.in_ok-ids.ids.items in
    let uses = c.in_ok-uses.uses.items in
    let ids_are : ids ≡ ids_in lines = c.in_ok-ids.ensures ∙ ap ids_in c.deref.ensures.value in
    let all = subst (λ (xs : List ℕ). AreAllUses xs (map operands_in lines) uses) c.deref-2.ensures.value
    (subst (λ (ls : List PacLine). AreAllUses c.deref-2.result.now (map operands_in ls) uses) c.deref-3.ensures.value c.in_ok-uses.ensures) in
    subst AreEarlier (sym c.deref-5.ensures.value) (uses_earlier lines c.args.closing ids ids_are c.requires.rising c.requires.earlier uses all)

pub returns : goal.returns
returns c =
    let v = c.in_ok-marks.marks in
    let lines = c.args.lines.items in
    let ids = c.in_ok-ids.ids.items in
    let uses = c.in_ok-uses.uses.items in
    let none = c.deref_mut.result.now in
    let marks = c.mark_closing.new.marks in
    let ids_are : ids ≡ ids_in lines = c.in_ok-ids.ensures ∙ ap ids_in c.deref.ensures.value in
    let all = subst (λ (xs : List ℕ). AreAllUses xs (map operands_in lines) uses) c.deref-2.ensures.value
    (subst (λ (ls : List PacLine). AreAllUses c.deref-2.result.now (map operands_in ls) uses) c.deref-3.ensures.value c.in_ok-uses.ensures) in
    let many : length none ≡ length lines = omega (arith, ap length c.deref_mut.ensures.value, c.in_ok-marks.ensures.len, v.ok.0, c.len.ensures, c.args.lines.ok.0) in
    let nothing : none ≡ replicate c.len.result false = c.deref_mut.ensures.value ∙ c.in_ok-marks.ensures.items_if_clones_equal (λ y h. search rules) in
    let needed = subst (λ (xs : List ℕ). MarksClosing xs c.args.closing uses none marks) c.deref-4.ensures.value
    (subst (λ (us : List (List ℕ)). MarksClosing c.deref-4.result.now c.args.closing us none marks) c.deref-5.ensures.value c.mark_closing.ensures) in
    let long : length marks ≡ length none = needed.2.places ∙ needed.1.places in
    let whole : take v.len (marks ++ drop (length marks) v.items) ≡ marks = written v.len marks v.items (omega (arith, v.ok.0)) (long ∙ ap length c.deref_mut.ensures.value) in
    lines_kept lines c.args.closing ids ids_are c.requires.rising c.requires.earlier uses all c.len.result none marks nothing many needed c.in_ok-kept.kept.items
    (c.in_ok-kept.ensures ∙ ap (λ (ms : List Bool). chosen ms lines) (c.deref-6.ensures.value ∙ whole))
