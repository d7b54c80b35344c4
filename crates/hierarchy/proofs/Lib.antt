mod EdgesPut
mod SpotLemmas
mod RunLemmas
pub mod OwnOrder
pub mod LevelLemmas
mod SortedSpots
