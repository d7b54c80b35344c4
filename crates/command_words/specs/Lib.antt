pub mod Rows
pub mod Values
pub mod Asks
pub mod Usage
