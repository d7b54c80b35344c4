-- Helps the loops of the code: what they keep of the entries before.
use Rattle.std.specs.Prelude.{Bool, true, Option, Some, None}
use Rattle.osm_model.specs.declared.piece_key.PieceKey.{PieceKey}
use Rattle.edge_info.specs.Entries.{comes_before}

-- a key goes on where the last entry has this key, or none stands before
abbrev pub rises_after : Option PieceKey → PieceKey → Bool
rises_after None key = true
rises_after (Some last) key = comes_before last key
