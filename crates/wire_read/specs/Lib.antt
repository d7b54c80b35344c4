pub mod Varint
pub mod Numbers
pub mod ZigZag
pub mod Fields
pub mod FaultLines
