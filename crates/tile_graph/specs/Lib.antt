pub mod Graphs
pub mod Alike
pub mod Tiles
