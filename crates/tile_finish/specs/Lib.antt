pub mod FinishedTiles
pub mod Finishing
