-- To be trusted by whoever reads the contracts: `ClauseTexts`, `Headers`, `LineTexts`, `Listings`, `HeaderRefusal`, `PassingHeaders` and
-- `WrittenTexts`, and for the certificate of two graphs `SameFiles`; `WrittenLaws` says what is read of a text that was written.
-- `ClauseReading`, `Steps` and `HeaderSteps` serve private clauses alone.
pub mod ClauseTexts
pub mod LineTexts
pub mod Listings
pub mod Headers
pub mod HeaderRefusal
pub mod PassingHeaders
pub mod ClauseReading
pub mod Steps
pub mod HeaderSteps
pub mod WrittenTexts
pub mod WrittenLaws
pub mod SameFiles
