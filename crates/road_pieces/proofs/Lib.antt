pub mod Members
pub mod Spans
pub mod Splits
pub mod Ends
pub mod Patterns
pub mod Nearest
pub mod Along
pub mod Own
pub mod Barriers
pub mod Lists
pub mod TurnPatterns
pub mod PatternLeads
pub mod Fits
mod NodePlaces
mod NodeBuckets
mod HeadLemmas
mod SurveyLemmas
mod RunLemmas
mod EachLine
mod LineLemmas
mod MarkLemmas
mod CourseLemmas
mod NameLemmas
mod PieceLemmas
mod PartLemmas
mod CutLemmas
pub mod Agree
mod RowLengths
mod RowPieces
mod PlainRoads
mod ListAgree
pub mod WorkedRows
mod WorkedRoads
