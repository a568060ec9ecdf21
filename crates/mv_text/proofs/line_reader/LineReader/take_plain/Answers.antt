use Rattle.std.proofs.Common.{◌≡◌, ◌++◌, ◌+◌, length, drop, ap, sym, ◌∙◌, arith, take-append-drop, length-append, length-drop}
use Rattle.std.proofs.lemmas.List.{length-take}
use Rattle.mv_text.proofs.line_reader.LineReader.take_plain.Goals as goal

pub returns-clause-ok : goal.returns-clause-ok
returns-clause-ok c =
    let part = c.plain-part.result.now in
    let bytes = c.self.inside.bytes in
    let items : c.extend_from_slice.new.self.items ≡ c.args.line.now.items ++ part = rw c.if-is_err.ensures.negation at c.extend_from_slice.ensures.items in
    let count : length c.extend_from_slice.new.self.items ≡ length c.args.line.now.items + length part = ap length items ∙ length-append c.args.line.now.items part in
    let ahead : bytes ≡ part ++ c.skip.new.self =
    sym (take-append-drop (length part) bytes) ∙ ap (λ front. front ++ drop (length part) bytes) (sym c.plain-part.ensures.front) ∙ ap (λ rest. part ++ rest) (sym c.skip.ensures) in
    record {
      part = part;
      no_end = c.plain-part.ensures.plain;
      ahead = ap (λ s. s.ahead) (sym c.self.view_is) ∙ ahead;
      items = items;
      short = omega (arith, count, c.plain-part.ensures.few, c.min-room.ensures, c.len.ensures, c.args.line.now.ok.0, ap (λ s. s.lengths.line) c.self.view_is, c.requires);
      taken = ap (λ s. s.taken + length part) c.self.view_is;
      lengths = ap (λ s. s.lengths) c.self.view_is;
    }

pub overflow_sub-self-inside : goal.overflow_sub-self-inside
overflow_sub-self-inside c = omega (arith, c.len.ensures, c.args.line.now.ok.0, ap (λ s. s.lengths.line) c.self.view_is, c.requires)

pub skip-requires : goal.skip-requires
skip-requires c = omega (arith, ap length c.plain-part.ensures.front ∙ length-take (length c.plain-part.result.now) c.self.inside.bytes)

pub invariant_of-self : goal.invariant_of-self
invariant_of-self c = (
  omega (arith, c.plain-part.ensures.few, c.min-room.ensures, c.self.invariant.0),
  omega (arith, ap length c.skip.ensures ∙ length-drop (length c.plain-part.result.now) c.self.inside.bytes, c.self.invariant.1),
)

pub returns-clause-piece : goal.returns-clause-piece
returns-clause-piece c = omega (arith, ap length c.skip.ensures ∙ length-drop (length c.plain-part.result.now) c.self.inside.bytes, c.self.invariant.1)
