use Rattle.std.proofs.Common.{ap, length}
use Rattle.std.specs.Prelude.{decimal}
use Rattle.mv_text.proofs.CallerLemmas.{Puts-is, Puts-then}
use Rattle.drup_text.specs.WrittenTexts.{outputs_text, pairs_text}
use Rattle.drup_text.proofs.WrittenLoops.{beside_end}
use Rattle.drup_text.proofs.writing.put_beside.Goals as goal

pub returns-clause-puts : goal.returns-clause-puts
returns-clause-puts g c =
    let beside = c.args.beside.now in
    let gates = c.as_slice-gates.ensures in
    let outputs = c.as_slice-outputs.ensures in
    Puts-is (beside_end (decimal (length beside.gates)) (pairs_text beside.gates) (outputs_text beside.outputs))
    (Puts-then
    (Puts-then (Puts-then (Puts-then c.put.ensures.puts (Puts-is (ap (λ ps. decimal (length ps)) gates) c.put_number.ensures.puts)) c.put-2.ensures.puts)
    (Puts-is (ap pairs_text gates) c.put_pairs.ensures.puts))
    (Puts-is (ap outputs_text outputs) c.put_outputs.ensures.puts))
