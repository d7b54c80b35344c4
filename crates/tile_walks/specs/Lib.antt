pub mod Keys
pub mod Records
pub mod FileTiles
pub mod WalkItems
pub mod Steps
pub mod WalkLaws
pub mod Forbidden
pub mod GraphLaws
