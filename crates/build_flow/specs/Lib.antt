pub mod Faults
pub mod Unbuilt
pub mod FolderFiles
pub mod BuildLaws
pub mod LimitLines
