use Rattle.poly_terms.specs.Laws.{indexes_stay}
use Rattle.poly_terms.proofs.table_laws.indexes_stay.Goals as goal

pub returns : goal.returns
returns c = indexes_stay
