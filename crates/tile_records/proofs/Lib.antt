mod Flags
mod RecordParts
mod EdgeLaws
mod NodeLaws
