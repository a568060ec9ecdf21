-- To be read by whoever trusts the contracts: LineRests. Drafts says what is kept while a line is put together: it serves private clauses
-- alone.
pub mod LineRests
pub mod Drafts
