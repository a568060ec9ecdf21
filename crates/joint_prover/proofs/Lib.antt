mod Sizes
mod WrongNumbers
pub mod TakenLists
pub mod Remainders
pub mod Telling
pub mod Noting
pub mod Joining
pub mod Choosing
pub mod Exactness
pub mod DraftRemainders
pub mod HeldFiles
pub mod CallerLemmas
