use Rattle.std.proofs.Common.{◌≡◌, ◌<◌, ◌++◌, ℕ, Bool, List, false, map, take, drop, length, replicate, slice_index, ap, subst, ◌∙◌, arith, rules}
use Rattle.drup_checker.proofs.LiveClauses.{written}
use Rattle.clause_core.specs.KeptClauses.{added_lines, chosen}
use Rattle.pair_trim.specs.Marking.{AreRanks}
use Rattle.pair_trim.proofs.KeptClauses.{kept_of, uses_low}
use Rattle.pair_trim.proofs.keeping.keep.Goals as goal

pub choose_uses-requires-clause-low : goal.choose_uses-requires-clause-low
choose_uses-requires-clause-low c =
    let v = c.in_ok-marks.marks in
    let marks = c.mark.new.marks in
    let many : length c.deref_mut.result.now ≡ length c.args.clauses.now = omega (arith, ap length c.deref_mut.ensures.value, c.in_ok-marks.ensures.len, v.ok.0, c.len.ensures) in
    let needed = c.mark.ensures in
    let long : length marks ≡ length c.deref_mut.result.now = needed.4.places ∙ (needed.3.places ∙ needed.2.places) in
    let whole : take v.len (marks ++ drop (length marks) v.items) ≡ marks = written v.len marks v.items (omega (arith, v.ok.0)) (long ∙ ap length c.deref_mut.ensures.value) in
    let ranked : AreRanks marks c.in_ok-ranks.ranks.items = subst (λ (ms : List Bool). AreRanks ms c.in_ok-ranks.ranks.items) (c.deref.ensures.value ∙ whole) c.in_ok-ranks.ensures in
    let more : length c.args.uses.now < length c.deref-3.result.now = omega (arith, ap length c.deref-3.ensures.value, ranked.many, long, many, c.requires.long) in
    uses_low c.args.uses.now (length c.deref-3.result.now) more c.requires.earlier

pub returns : goal.returns
returns c =
    let v = c.in_ok-marks.marks in
    let clauses = c.args.clauses.now in
    let uses = c.args.uses.now in
    let none = c.deref_mut.result.now in
    let marks = c.mark.new.marks in
    let ranks = c.in_ok-ranks.ranks.items in
    let many : length none ≡ length clauses = omega (arith, ap length c.deref_mut.ensures.value, c.in_ok-marks.ensures.len, v.ok.0, c.len.ensures) in
    let nothing : none ≡ replicate c.len.result false = c.deref_mut.ensures.value ∙ c.in_ok-marks.ensures.items_if_clones_equal (λ y h. search rules) in
    let needed = c.mark.ensures in
    let long : length marks ≡ length none = needed.4.places ∙ (needed.3.places ∙ needed.2.places) in
    let whole : take v.len (marks ++ drop (length marks) v.items) ≡ marks = written v.len marks v.items (omega (arith, v.ok.0)) (long ∙ ap length c.deref_mut.ensures.value) in
    let ranked : AreRanks marks ranks = subst (λ (ms : List Bool). AreRanks ms ranks) (c.deref.ensures.value ∙ whole) c.in_ok-ranks.ensures in
    let lines_are = c.in_ok-lines.ensures ∙ ap (λ (ms : List Bool). added_lines (chosen ms clauses)) (c.deref-4.ensures.value ∙ whole) in
    let uses_are = c.in_ok-uses.ensures ∙ (ap (λ (ms : List Bool). chosen ms (map (map (slice_index c.deref-3.result.now)) uses)) (c.deref-2.ensures.value ∙ whole) ∙
    ap (λ (rs : List ℕ). chosen marks (map (map (slice_index rs)) uses)) c.deref-3.ensures.value) in
    kept_of c.args.goals.now c.args.more.now clauses uses none needed.0 needed.1 marks ranks c.len.result nothing many c.requires.long c.requires.earlier c.requires.named
    needed.2 needed.3 needed.4 ranked c.in_ok-lines.lines.items c.in_ok-uses.uses.items lines_are uses_are
