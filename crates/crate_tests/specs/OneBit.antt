-- The one-bit graph and lines over it. Tests alone cite this.
use Rattle.std.specs.Prelude.{[], ◌∷◌}
use Rattle.graph_core.specs.declared.order.Order.TheVariants.{Separate}
use Rattle.graph_core.specs.Graph.{Aig}
use Rattle.graph_core.specs.Graph.Extended.{without_cut}
use Rattle.graph_core.specs.Graph.Operands.{sides_of}
use Rattle.pac_writer.specs.Writing.{Made, IsFresh}

-- x3 = x2 * x1, and the outputs x3 and 0
abbrev pub one_bit : Aig
one_bit = record {
  max = 3;
  inputs = record { 0 = 2 } ∷ record { 0 = 4 } ∷ [];
  outputs = record { 0 = 6 } ∷ record { 0 = 0 } ∷ [];
  gates = record { v = 3; left = record { 0 = 4 }; right = record { 0 = 2 } } ∷ [];
}

-- lines over this graph, none yet
abbrev pub IsOneBit : Made → Type 0
IsOneBit l = IsFresh (without_cut one_bit) (sides_of Separate one_bit) l
