use Rattle.gate_sweeper.proofs.sweeping.show_alike.Goals as goal

pub show_within-requires : goal.show_within-requires
show_within-requires c = (c.requires.0, c.requires.1, c.in_ok-log_one.ensures c.requires.0 c.requires.1 c.requires.2)
