use Rattle.std.proofs.Common.{◌∙◌, ap, sym, ◌+◌, ◌%◌, ◌^◌}
use Rattle.std.proofs.Math.Nat.{add-mod-mod}
use Rattle.poly_text.proofs.pac_reader.PacReader.signed.Goals as goal

pub returns-then-negative-clause-minus : goal.returns-then-negative-clause-minus
returns-then-negative-clause-minus c = λ _.
    ap (λ z. (z + c.args.coefficient) % 2 ^ c.args.self.now.exponent) c.value.ensures.value ∙
    sym (add-mod-mod c.neg.result.value c.args.coefficient (2 ^ c.args.self.now.exponent)) ∙
    ap (λ z. (c.neg.result.value + z) % 2 ^ c.args.self.now.exponent) (sym c.new.ensures.value) ∙
    ap (λ w. (c.neg.result.value + c.new.result.value) % 2 ^ w) (sym c.new.ensures.width) ∙ c.neg.ensures.value
