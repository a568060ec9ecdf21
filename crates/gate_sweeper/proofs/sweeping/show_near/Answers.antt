use Rattle.gate_sweeper.proofs.sweeping.show_near.Goals as goal

pub show_within-requires-2 : goal.show_within-requires-2
show_within-requires-2 c = (c.requires.0, c.requires.1, c.in_ok-show_within.ensures c.requires.0 c.requires.1 c.requires.2)
