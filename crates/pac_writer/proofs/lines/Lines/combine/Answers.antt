use Rattle.std.proofs.Common.{◌≡◌, ◌+◌, ap, arith, subst, sym}
use Rattle.poly_text.specs.declared.line.PacLine.TheVariants as line
use Rattle.pac_writer.specs.Writing.{Made, AreLawfulSoFar, combination_of}
use Rattle.pac_writer.specs.Kept.{CanFollowLines, IsKeptLine}
use Rattle.pac_writer.proofs.Combining.{combination_is_kept, combination_can_follow}
use Rattle.pac_writer.proofs.lines.Lines.combine.Goals as goal

pub put-requires-clause-kept : goal.put-requires-clause-kept
put-requires-clause-kept c =
    let old = c.args.self.now in
    let last = c.self.inside.last in
    let is : last ≡ old.last = ap (λ (o : Made). o.last) c.self.view_is in
    let room = c.requires.room in
    subst (λ ps. IsKeptLine old.extended.max old.table (line.Combination (last + 1) ps c.args.poly)) (sym c.from-parts.ensures)
    (combination_is_kept old c.args.parts.items c.args.poly (last + 1) (subst AreLawfulSoFar c.self.view_is c.self.invariant.so_far) (ap (λ n. n + 1) is) (omega arith) c.requires.over c.requires.spare)

pub put-requires-clause-lawful : goal.put-requires-clause-lawful
put-requires-clause-lawful c =
    let old = c.args.self.now in
    let last = c.self.inside.last in
    let is : last ≡ old.last = ap (λ (o : Made). o.last) c.self.view_is in
    let room = c.requires.room in
    subst (λ ps. CanFollowLines old (last + 1) (combination_of old.table (last + 1) ps c.args.poly)) (sym c.from-parts.ensures)
    (combination_can_follow old c.args.parts.items c.args.poly (last + 1) (subst AreLawfulSoFar c.self.view_is c.self.invariant.so_far) (ap (λ n. n + 1) is) (omega arith) c.requires.over c.requires.spare
    c.requires.equal)
