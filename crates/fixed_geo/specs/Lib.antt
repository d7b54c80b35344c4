pub mod Place
pub mod Root
pub mod Length
