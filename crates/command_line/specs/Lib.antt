-- `Asked` says what the words of a command line ask for, and `FixedCommand` which command clap is given: these two a
-- reader must trust. `Examples` has what follows from them for plain words. `Reading` serves private clauses alone.
pub mod FixedCommand
pub mod Asked
pub mod Examples
pub mod Reading
