use Rattle.std.proofs.Common.{◌≤◌, ◌∙◌, ap, sym, subst, length, drop}
use Rattle.mv_text.proofs.Ahead.{range_behind}
use Rattle.mv_text.proofs.byte_reader.ByteReader.skip.Goals as goal

pub returns : goal.returns
returns c =
    range_behind c.self.inside.buffer c.self.inside.start c.self.inside.end c.args.count (subst (λ l. c.args.count ≤ length l) (sym c.self.view_is) c.requires) ∙
    ap (drop c.args.count) c.self.view_is
