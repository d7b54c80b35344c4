mod Halves
mod BackEdges
mod TilesFound
mod FullTiles
mod Fits
pub mod OtherNodes
mod RecordLists
