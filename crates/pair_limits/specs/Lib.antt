-- To be trusted by whoever reads the contracts: `TooLong`. `Rooms` serves private clauses alone.
pub mod TooLong
pub mod Rooms
