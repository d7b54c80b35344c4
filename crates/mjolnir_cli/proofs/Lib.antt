pub mod Causes
pub mod SoFar
pub mod OneAnswer
pub mod OneEnd
pub mod SomeEnd
pub mod Refusals
pub mod Stored
pub mod Ends
pub mod HowItEnds
mod OldClauses
pub mod Building
pub mod GoodValues
