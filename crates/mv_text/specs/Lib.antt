-- To be trusted by a reader: five, `LineReading` (lines of a file read by pieces), `CertificateFiles` (what the next line of a
-- file says in a grammar), `Judging` (what it leads to), `Steps` (what is taken from the front of a text) and `Puts` (texts put one
-- after the other). `NumbersAhead` serves private clauses.
pub mod LineReading
pub mod CertificateFiles
pub mod Judging
pub mod Steps
pub mod Puts
pub mod NumbersAhead
