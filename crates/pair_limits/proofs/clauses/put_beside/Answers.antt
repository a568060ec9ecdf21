use Rattle.std.proofs.Common.{ap, length}
use Rattle.std.specs.Prelude.{decimal}
use Rattle.drup_text.specs.WrittenTexts.{outputs_text, pairs_text}
use Rattle.drup_text.proofs.WrittenLoops.{beside_end}
use Rattle.pair_limits.proofs.Behind.{text_is, text_then}
use Rattle.pair_limits.proofs.clauses.put_beside.Goals as goal

pub returns : goal.returns
returns c =
    let beside = c.args.beside.now in
    let gates = c.as_slice-gates.ensures in
    let outputs = c.as_slice-outputs.ensures in
    text_is (beside_end (decimal (length beside.gates)) (pairs_text beside.gates) (outputs_text beside.outputs))
    (text_then
    (text_then (text_then (text_then c.put.ensures (text_is (ap (λ ps. decimal (length ps)) gates) c.put_number.ensures)) c.put-2.ensures)
    (text_is (ap pairs_text gates) c.put_pairs.ensures))
    (text_is (ap outputs_text outputs) c.put_outputs.ensures))
