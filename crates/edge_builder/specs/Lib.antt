pub mod BaseRows
pub mod BaseTiles
pub mod Groups
pub mod RoadLaws
pub mod ExtractRows
pub mod BaseStages
