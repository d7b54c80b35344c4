mod Lefts
mod KindLemmas
mod Listed
mod Told
mod Rises
mod WorkedRows
