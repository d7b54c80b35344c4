mod TextLemmas
mod SearchLemmas
mod EntryLemmas
mod OrderLemmas
mod PassLemmas
mod StartLemmas
mod WorkedTile
