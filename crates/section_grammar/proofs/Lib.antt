pub mod ByteLists
pub mod WordLaws
pub mod Steps
pub mod Sections
pub mod Failing
pub mod Tells
pub mod Judges
