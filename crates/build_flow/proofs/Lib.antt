mod Given
mod Full
mod Roads
mod Local
mod TileWalks
mod ByObjects
mod WholeBuild
