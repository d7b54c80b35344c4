pub mod TileTexts
pub mod TileEntries
pub mod TileChecks
pub mod TextSearch
