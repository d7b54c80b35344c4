pub mod ReadableRows
pub mod Graph
pub mod NamesInCommon
pub mod Cells
pub mod Density
pub mod Enhanced
pub mod StaysPlain
pub mod Tells
