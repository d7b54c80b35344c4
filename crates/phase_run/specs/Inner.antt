-- What the crate's own functions cite. A reader of its public contracts may skip this folder.
pub mod Rest
pub mod Workers
