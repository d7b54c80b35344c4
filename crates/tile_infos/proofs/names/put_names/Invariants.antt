-- The texts and the places of the names so far.
use Rattle.std.proofs.Common.{◌≡◌, map, take}
use Rattle.tile_infos.specs.TileTexts.{texts_once, text_place}
use Rattle.tile_infos.specs.TextSearch.{KnowsPlaces}
use Rattle.tile_infos.proofs.names.put_names.Given as goal

abbrev pub invariant-loop-i : goal.invariant-loop-i
invariant-loop-i l =
    KnowsPlaces l.known l.texts.items
    × (l.texts.items ≡ texts_once l.fn.texts.items (take l.i l.names))
    × (l.places.items ≡ map (text_place l.texts.items) (take l.i l.names))
