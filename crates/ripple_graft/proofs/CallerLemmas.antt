-- What crates above may cite of extended graphs.
pub use Rattle.ripple_graft.proofs.NewOutputs.{outputs_are_new}
pub use Rattle.ripple_graft.proofs.Orders.{order_from, rank}
pub use Rattle.ripple_graft.proofs.HeaderParts.{beside_fits, beside_grafted, header_blocks_fit, header_extends, header_goes_on, header_grafted, header_parts_fit, nothing_fits}
