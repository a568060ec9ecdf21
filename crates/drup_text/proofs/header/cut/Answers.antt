use Rattle.std.proofs.Common.{◌+◌, ◌≡◌, ◌∙◌, All, Err, None, Ok, Some, ap, length, refl, subst, sym}
use Rattle.graph_core.specs.Graph.Extended.{Extended, without_cut}
use Rattle.drup_text.specs.ClauseTexts.{IsCutLine}
use Rattle.drup_text.specs.HeaderSteps.{ReadsHeaderPart, cut_part, line_part, pairs_part}
use Rattle.drup_text.specs.LineTexts.{IsCutSize, IsPairOf, IsSizeInRange}
use Rattle.ripple_graft.specs.declared.cut.Cut.{Cut}
use Rattle.drup_text.proofs.BlockSteps.{cut_joined, cut_refused, no_cut, size_refused}
use Rattle.drup_text.proofs.HeaderSteps.{part_behind, refused_behind, refused_front, same_part}
use Rattle.drup_text.proofs.header.cut.Goals as goal

pub returns-in-Ok-None-clause-cut : goal.returns-in-Ok-None-clause-cut
returns-in-Ok-None-clause-cut g c =
    let graph = c.args.graph.now in
    let before = g.D.Desk.seen c.args.desk.now in
    let now = g.D.Desk.seen c.next_size.new.desk in
    let line = line_part IsCutLine (IsSizeInRange (length graph.outputs)) in
    same_part line (cut_part graph) None None refl (λ IsLong. no_cut graph IsLong)
    (subst (λ o. ReadsHeaderPart line c.args.file.now c.next_size.new.file before now (Ok o)) c.in-Ok-None.field-0-is c.in-Ok-None.ensures.size)

pub returns-clause-cut : goal.returns-clause-cut
returns-clause-cut g c =
    let graph = c.args.graph.now in
    refused_front (line_part IsCutLine (IsSizeInRange (length graph.outputs))) (cut_part graph) c.in-Err.fail (λ IsLong. size_refused graph IsLong c.args.file.now.number c.requires.first) c.in-Err.ensures.size

pub returns-in-Ok-Some-clause-cut : goal.returns-in-Ok-Some-clause-cut
returns-in-Ok-Some-clause-cut g c =
    let graph = c.args.graph.now in
    let before = g.D.Desk.seen c.args.desk.now in
    let between = g.D.Desk.seen c.next_size.new.desk in
    let now = g.D.Desk.seen c.pairs-in-Ok-Some.new.desk in
    let line = line_part IsCutLine (IsSizeInRange (length graph.outputs)) in
    let first = subst (λ o. ReadsHeaderPart line c.args.file.now c.next_size.new.file before between (Ok o)) c.in-Ok-Some.field-0-is c.in-Ok-Some.ensures.size in
    refused_behind line (pairs_part (without_cut graph) c.in-Ok-Some.count) (cut_part graph) (Some (c.in-Ok-Some.lo, c.in-Ok-Some.count)) c.in-Ok-Some.ensures.keeps.lengths first c.in-Err-pairs.fail c.in-Ok-Some.ensures.reads.stands
    (λ IsLong. cut_refused graph IsLong c.args.file.now.number c.in-Ok-Some.lo c.in-Ok-Some.count c.requires.first)
    (subst (λ (x : Extended). ReadsHeaderPart (pairs_part x c.in-Ok-Some.count) c.next_size.new.file c.pairs-in-Ok-Some.new.file between now (Err c.in-Err-pairs.fail)) c.without_cut.ensures c.in-Err-pairs.ensures.pairs)

pub returns-in-Ok-clause-cut : goal.returns-in-Ok-clause-cut
returns-in-Ok-clause-cut g c =
    let graph = c.args.graph.now in
    let before = g.D.Desk.seen c.args.desk.now in
    let between = g.D.Desk.seen c.next_size.new.desk in
    let now = g.D.Desk.seen c.pairs-in-Ok-Some.new.desk in
    let line = line_part IsCutLine (IsSizeInRange (length graph.outputs)) in
    let count = c.in-Ok-Some.count in
    let pairs = c.in-Ok.pairs in
    let cut : Cut = record { lo = c.in-Ok-Some.lo; pairs = c.from_vec-pairs.result } in
    let same = c.from_vec-pairs.ensures in
    let first = subst (λ o. ReadsHeaderPart line c.args.file.now c.next_size.new.file before between (Ok o)) c.in-Ok-Some.field-0-is c.in-Ok-Some.ensures.size in
    let second = subst (λ (x : Extended). ReadsHeaderPart (pairs_part x count) c.next_size.new.file c.pairs-in-Ok-Some.new.file between now (Ok pairs)) c.without_cut.ensures c.in-Ok.ensures.pairs in
    part_behind line (pairs_part (without_cut graph) count) (cut_part graph) (Some (c.in-Ok-Some.lo, count)) c.in-Ok-Some.ensures.keeps.lengths first pairs (Some cut) (ap (λ ps. 1 + length ps) same)
    (λ IsLong. cut_joined graph IsLong cut count pairs same c.in-Ok.ensures.count) second

pub returns-in-Ok-clause-fits : goal.returns-in-Ok-clause-fits
returns-in-Ok-clause-fits g c =
    let graph = c.args.graph.now in
    let lo = c.in-Ok-Some.lo in
    let pairs = c.in-Ok.pairs.items in
    let same : c.from_vec-pairs.result ≡ pairs = c.from_vec-pairs.ensures in
    let size : IsCutSize (length graph.outputs) (lo, c.in-Ok-Some.count) = subst (IsSizeInRange (length graph.outputs)) c.in-Ok-Some.field-0-is c.in-Ok-Some.ensures.in_range in
    let fits = subst (λ n. IsCutSize (length graph.outputs) (lo, n)) (sym (ap length same ∙ c.in-Ok.ensures.count)) size in
    record {
      some = fits.0;
      columns = fits.1;
      known = subst (λ ps. All (IsPairOf (without_cut graph)) ps) (sym same) (subst (λ (x : Extended). All (IsPairOf x) pairs) c.without_cut.ensures c.in-Ok.ensures.known);
    }
