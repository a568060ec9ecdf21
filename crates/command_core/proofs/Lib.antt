pub mod HeldFiles
pub mod NamesTold
pub mod Stops
pub mod GraphStops
pub mod InOrder
pub mod CallerLemmas
