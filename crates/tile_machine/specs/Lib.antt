pub mod At
pub mod FinishedBy
pub mod Good
pub mod Inner
pub mod Late
pub mod Next
pub mod State
pub mod Values
