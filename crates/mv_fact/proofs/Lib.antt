-- The lemmas of the proofs.
mod Lookups
