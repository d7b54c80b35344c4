pub mod Reports
pub mod Worked
pub mod TileLists
