pub mod Keys
pub mod Kinds
pub mod Members
pub mod Exceptions
pub mod Turns
pub mod Rows
pub mod Reasons
