-- To be trusted by a reader: all four, `Files` (the names of files, and what is told of them), `Stopping` (why a call on files has no
-- answer of its own, and where), `InOrder` (the answer of several files) and `Written` (what writing does to files).
pub mod Files
pub mod Stopping
pub mod InOrder
pub mod Written
