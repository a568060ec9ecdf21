use Rattle.poly_terms.proofs.Entering.{others_item}
use Rattle.poly_terms.proofs.places.Places.take.Goals as goal

pub returns-clause-others : goal.returns-clause-others
returns-clause-others c u other = others_item c.args.v c.args.self.now c.self.inside.by_variable.items c.replace.new.dest c.self.view_is u other
