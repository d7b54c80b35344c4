-- What the crate's own functions cite. A reader of its public contracts may skip this folder.
pub mod OutSlots
pub mod Steps
