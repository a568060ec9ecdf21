-- Whether gates are those of a half adder or of a position of a ripple-carry adder, with their operands in either order.
use Rattle.std.specs.Prelude.{Bool, ◌&&◌, ◌||◌, ◌==◌}
use Rattle.graph_core.specs.declared.literal.Lit.{Lit}
use Rattle.graph_core.specs.declared.gate.Gate.{Gate}
use Rattle.graph_core.specs.Graph.Literals.{negation_of}
use Rattle.graph_core.specs.Graph.Literals.{plain, inverted}

-- the gate's operands, in either order
abbrev pub reads : Gate → Lit → Lit → Bool
reads g x y = ((g.left.0 == x.0) && (g.right.0 == y.0)) || ((g.left.0 == y.0) && (g.right.0 == x.0))

-- u over some x and y, w over !x and !y, t over !u and !w
abbrev pub is_half : Gate → Gate → Gate → Bool
is_half u w t = reads w (negation_of u.left) (negation_of u.right) && reads t (inverted u.v) (inverted w.v)

-- e over t and some c, f over !t and !c
abbrev pub is_carried : Gate → Gate → Gate → Bool
is_carried t e f = ((e.left.0 == (plain t.v).0) && reads f (inverted t.v) (negation_of e.right)) ||
    ((e.right.0 == (plain t.v).0) && reads f (inverted t.v) (negation_of e.left))

-- a half adder of x and y, one of t and c with the sum s, and h over !u and !e
abbrev pub is_full : Gate → Gate → Gate → Gate → Gate → Gate → Gate → Bool
is_full u w t e f s h = is_half u w t && (is_carried t e f && (reads s (inverted e.v) (inverted f.v) && reads h (inverted u.v) (inverted e.v)))
