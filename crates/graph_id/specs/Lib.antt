pub mod GraphId
pub mod TilePath
