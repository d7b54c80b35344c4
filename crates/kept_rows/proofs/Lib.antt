pub mod ListFacts
pub mod KeptStages
pub mod LevelPlaces
pub mod OpenTables
pub mod LiftedStages
pub mod TableLaws
