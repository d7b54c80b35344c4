pub mod LevelTiles
