-- What crates above may cite of stops, of files in an order, and of files that were read or written.
pub use Rattle.command_core.proofs.GraphStops.{graph_exact}
pub use Rattle.command_core.proofs.HeldFiles.{file_is_held, no_other_changed, other_names, others_are_held, same_told, text_is_held, told_file}
pub use Rattle.command_core.proofs.InOrder.{IsLong-due, caused_is_due, one_answer, one_last, one_over_graph, one_then, one_unless, some_number, stopped_is_due}
pub use Rattle.command_core.proofs.NamesTold.{opened_told, told_earlier, told_later}
pub use Rattle.command_core.proofs.Stops.{IsGraphStop-about, IsLong-about, IsLong-is, IsLong-weaker, IsStop-weaker, due_or_interrupts, one_file, opens_up_to, read_stops, stop_gives}
