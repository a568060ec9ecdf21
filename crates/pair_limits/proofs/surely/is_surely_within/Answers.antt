use Rattle.std.proofs.Common.{◌+◌, ◌-◌, ◌++◌, ◌∷◌, [], ◌∙◌, arith, ap, sym, subst, drop, append_assoc}
use Rattle.graph_core.specs.Text.{newline}
use Rattle.graph_core.specs.Text.JudgedLines.{IsWithin}
use Rattle.algebra_core.specs.Text.{first_line}
use Rattle.poly_text.specs.WrittenLines.{closing_text, text_in, written_text}
use Rattle.pac_writer.proofs.Texts.{next_text, no_text, written_in}
use Rattle.pair_limits.proofs.Lengths.{closing_short, ended, header_short, id_short}
use Rattle.pair_limits.proofs.Within.{line_more, nothing_within}
use Rattle.pair_limits.proofs.surely.is_surely_within.Goals as goal

pub loop-line-init : goal.loop-line-init
loop-line-init c =
    let v = c.args.version in
    let file = c.args.limits.now.certificate in
    let most = c.args.limits.now.line in
    let rest = written_in c.args.terms.now c.args.lines.now ++ ended c.args.closing in
    let short = header_short v in
    λ h. subst (IsWithin (record { file = file; line = most })) (sym (append_assoc (first_line v) (newline ∷ []) rest))
    (line_more most file (file - 6 - 32 + 32) (first_line v) rest (omega (arith, short, c.if-limits-lt-ID.false)) (omega (arith, short, c.if-limits.false)) h)

pub loop-line-preserved : goal.loop-line-preserved
loop-line-preserved c =
    let t = c.args.terms.now in
    let xs = c.args.lines.now in
    let at = c.loop-line.line-index in
    let x = c.line-item.result in
    let most = c.args.limits.now.line in
    let last = ended c.args.closing in
    let rest = written_in t (drop (at + 1) xs) ++ last in
    let same = ap (λ s. s ++ last) (next_text t xs at x c.requires.go_on c.loop-line-test.true c.line-item.is) ∙ append_assoc (written_text t x) (written_in t (drop (at + 1) xs)) last ∙ append_assoc (text_in t x) (newline ∷ []) rest in
    λ h. c.loop-line.invariant (subst (IsWithin (record { file = c.loop-line.file + 32; line = most })) (sym same)
    (line_more most (c.loop-line.file + 32) (c.in-Some.left + 32) (text_in t x) rest c.in-Some.ensures.line (let room = c.in-Some.ensures.file in omega (arith, room)) h))

pub returns : goal.returns
returns c is =
    let t = c.args.terms.now in
    let xs = c.args.lines.now in
    let at = c.loop-line.line-index in
    let most = c.args.limits.now.line in
    let last = ended c.args.closing in
    let short = closing_short c.args.closing (id_short c.args.closing c.ranges.closing.fits) in
    let same = ap (λ s. s ++ last) (no_text t xs at c.loop-line-test.false) in
    c.loop-line.invariant (subst (IsWithin (record { file = c.loop-line.file + 32; line = most })) (sym same)
    (line_more most (c.loop-line.file + 32) 0 (closing_text c.args.closing) [] (omega (arith, short, c.if-limits-lt-ID.false)) (omega (arith, short)) (nothing_within most)))
