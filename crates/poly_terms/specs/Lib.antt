-- To be trusted by whoever reads the contracts: `Tables`, and what `Indexed` says before it comes to coefficients by number. `Laws` proves what it
-- states of tables that grow. `Merges`, `Entries`, `Monomials`, `PolySums`, `Hashed`, `Lists`, `Blocks` and `Chains` say how the monomials of a polynomial are kept, and serve private clauses alone.
pub mod Merges
pub mod Entries
pub mod Monomials
pub mod Tables
pub mod Indexed
pub mod PolySums
pub mod Hashed
pub mod Lists
pub mod Blocks
pub mod Chains
pub mod Laws
