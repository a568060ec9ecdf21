use Rattle.std.proofs.Common.{◌≢◌, ◌<◌, ℕ, List, All, length, get_or, take, sym, ◌∙◌, eq-eqb, arith}
use Rattle.std.proofs.lemmas.List.{get_or-take, length-take}
use Rattle.std.proofs.lemmas.List.Elements.{All-from_get_or}
use Rattle.graph_core.specs.Text.{newline}
use Rattle.memchr.specs.Find.{Nowhere, Passes, is_byte}
use Rattle.mv_text.proofs.byte_reader.line_end.Goals as goal

-- no line feed stands before the first one
none_before : (bytes : List ℕ) (end : ℕ) → Nowhere (Passes (is_byte newline) bytes) 0 end → All (λ b. b ≢ newline) (take end bytes)
none_before bytes end none = All-from_get_or (λ b. b ≢ newline) (take end bytes) 0 at
  where
    at : (i : ℕ) → i < length (take end bytes) → get_or (take end bytes) i 0 ≢ newline
    at i low is =
        let before : i < end = omega (arith, length-take end bytes) in
        none i (omega arith) before (eq-eqb (get_or bytes i 0) newline (sym (get_or-take end bytes i 0 before) ∙ is))

pub returns-in-Some-clause-plain : goal.returns-in-Some-clause-plain
returns-in-Some-clause-plain c = none_before c.args.bytes.now c.in-Some.end c.in-Some.ensures.0.before

pub returns-in-None-clause-plain : goal.returns-in-None-clause-plain
returns-in-None-clause-plain c = none_before c.args.bytes.now _ c.in-None.ensures
