pub mod CallerLemmas
pub mod FilesLemmas
pub mod PlacesLemmas
pub mod ViewLemmas
