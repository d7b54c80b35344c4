pub mod Words
pub mod Keys
pub mod PlaceLemmas
pub mod Deciding
pub mod OpenNodes
mod WorkedRows
