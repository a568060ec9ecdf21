-- To be read by whoever trusts the contracts: Literals, Trail and Standing. The others serve private clauses and the
-- invariants alone: Watches and Visits have that each live clause stands once in each of its two chains. A removed clause stays there
-- until propagation meets it.
pub mod Literals
pub mod Watches
pub mod Trail
pub mod Standing
pub mod Visits
pub mod Ground
pub mod Kept
pub mod Near
