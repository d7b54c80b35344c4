pub mod AlikeLaw
pub mod WorkedHub
