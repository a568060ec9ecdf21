-- To be trusted by whoever reads the contracts: `Spare` (what a certificate leaves out), `Writing` (lines that are made, one after the
-- other), `Certificates` (their text) and `LawfulTexts` (what the text of lawful lines is). `Kept` says what is known of the lines as code
-- keeps them, and serves private clauses alone.
pub mod Spare
pub mod Writing
pub mod Certificates
pub mod LawfulTexts
pub mod Kept
