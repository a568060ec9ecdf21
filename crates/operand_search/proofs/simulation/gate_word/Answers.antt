use Rattle.std.proofs.Common.{ap₂, ◌&&◌, ◌∙◌}
use Rattle.operand_search.proofs.Bits.{truth_and}
use Rattle.operand_search.proofs.simulation.gate_word.Goals as goal

pub returns : goal.returns
returns c i h = truth_and c.word_of.result c.word_of-2.result i ∙ ap₂ ◌&&◌ (c.word_of.ensures i h) (c.word_of-2.ensures i h)
