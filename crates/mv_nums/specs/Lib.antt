-- To be trusted by a reader: both, `Residue` (numbers modulo 2^w) and `Numeral` (what decimal digits spell).
pub mod Residue
pub mod Numeral
