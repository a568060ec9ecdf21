-- What crates above may cite of what stands.
pub use Rattle.unit_prop.proofs.Chains.{alone_is_free, assumed_with, consistent, follows, free_assumes_none}
pub use Rattle.unit_prop.proofs.Codes.{as_literal}
pub use Rattle.unit_prop.proofs.FoundSets.{none_live}
