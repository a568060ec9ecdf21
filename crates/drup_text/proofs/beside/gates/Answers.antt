use Rattle.graph_core.specs.Graph.Extended.{without_cut}
use Rattle.std.proofs.Common.{◌+◌, refl}
use Rattle.graph_core.proofs.OfTexts.CallerLemmas.{none_in}
use Rattle.std.specs.Prelude.{codes}
use Rattle.drup_text.specs.HeaderSteps.{listing_part}
use Rattle.drup_text.specs.Listings.{gate_listing}
use Rattle.drup_text.proofs.HeaderSteps.{refused_front}
use Rattle.drup_text.proofs.ListedSteps.{listing_read, number_part, number_refused}
use Rattle.drup_text.proofs.beside.gates.Goals as goal

pub next_number-requires-clause-plain : goal.next_number-requires-clause-plain
next_number-requires-clause-plain g c = none_in (codes "gates ") refl

pub returns-in-Ok-clause-gates : goal.returns-in-Ok-clause-gates
returns-in-Ok-clause-gates g c =
    listing_read gate_listing (without_cut c.args.graph.now) c.in-Ok.count c.counted_gates.result c.in-Ok.ensures.keeps.lengths c.in-Ok.ensures.reads.stands c.in-Ok.ensures.number c.counted_gates.ensures.count c.counted_gates.ensures.gates

pub returns-in-Err-clause-gates : goal.returns-in-Err-clause-gates
returns-in-Err-clause-gates g c =
    refused_front (number_part gate_listing (without_cut c.args.graph.now)) (listing_part gate_listing (without_cut c.args.graph.now)) c.in-Err.fail (λ IsLong. number_refused gate_listing (without_cut c.args.graph.now) IsLong (c.args.file.now.number + 1)) c.in-Err.ensures.number
