-- The infos of the pieces so far.
use Rattle.std.proofs.Common.{◌≡◌, take}
use Rattle.edge_info.specs.Entries.{starts_of}
use Rattle.tile_infos.specs.TileTexts.{texts_of_pieces}
use Rattle.tile_infos.specs.TileEntries.{pieces_at, entries_of_pieces}
use Rattle.tile_infos.specs.TextSearch.{KnowsPlaces}
use Rattle.tile_infos.proofs.tile.tile_infos.Given as goal

abbrev pub invariant-loop-place : goal.invariant-loop-place
invariant-loop-place l =
    KnowsPlaces l.known l.texts.items
    × (l.texts.items ≡ texts_of_pieces (pieces_at l.pieces (take l.place-index l.places)))
    × (l.infos ≡ entries_of_pieces (pieces_at l.pieces (take l.place-index l.places)))
    × (l.offsets.items ≡ starts_of l.infos)
