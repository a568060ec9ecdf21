-- What crates above may cite of AIGER files.
pub use Rattle.graph_core.proofs.OfAiger.Fields.{accepted, inputs_back, inputs_from}
pub use Rattle.graph_core.proofs.OfAiger.GivenWidths.{both_widths, few_given_inputs, few_given_outputs, outputs_fit, outputs_low, passed, widths_fit}
pub use Rattle.graph_core.proofs.OfAiger.Packed.{Counts, all_flat_map, counts_apart, counts_append, counts_contain}
pub use Rattle.graph_core.proofs.OfAiger.PlacedGates.{ArePlaced, placed-append, placed_count, position_placed}
pub use Rattle.graph_core.proofs.OfAiger.Readers.{header_steady, symbol_steady}
pub use Rattle.graph_core.proofs.OfAiger.Refusals.{header_refused, lists_refused, lists_take, text_refused}
pub use Rattle.graph_core.proofs.OfAiger.SpelledSizes.{narrow_for, shape_for, shape_of, spelled_shape, well_formed}
pub use Rattle.graph_core.proofs.OfAiger.Tail.{Ends, ends_behind, rest_sound}
pub use Rattle.graph_core.proofs.OfAiger.Writing.{ascii_text_spells, binary_text_spells}
pub use Rattle.graph_core.proofs.OfAiger.Rows.{one_bit, one_bit_is_spelled, one_bit_text}
