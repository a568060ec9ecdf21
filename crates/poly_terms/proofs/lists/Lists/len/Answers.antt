use Rattle.std.proofs.Common.{length, sym, ap, ◌∙◌}
use Rattle.poly_terms.proofs.Listing.{length_lists}
use Rattle.poly_terms.proofs.lists.Lists.len.Goals as goal

pub returns : goal.returns
returns c = c.len.ensures ∙ sym (length_lists 0 c.self.inside.variables.items c.self.inside.ends) ∙ ap length c.self.view_is
