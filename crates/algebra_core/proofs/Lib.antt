-- Lemmas on polynomials and algebra certificates. Crates above import CallerLemmas alone.
pub mod Agreements
pub mod CallerLemmas
pub mod Differences
mod FileRows
pub mod FirstRefusals
pub mod LedgerLines
pub mod LikeLines
mod LineRows
pub mod Newlines
pub mod NormalFormSizes
pub mod NormalForms
pub mod Reading
pub mod SamePremises
pub mod Sound
pub mod Support
pub mod Vanishing
