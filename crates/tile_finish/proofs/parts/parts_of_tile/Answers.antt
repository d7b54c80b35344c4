use Rattle.std.proofs.Common.{◌∙◌, sym, ap, length}
use Rattle.edge_info.specs.Entries.{starts_of}
use Rattle.tile_infos.specs.TileEntries.{pieces_at, entries_of_pieces}
use Rattle.tile_finish.specs.FinishedTiles.{piece_places}
use Rattle.tile_finish.proofs.PartLemmas.{places_inside, starts_are}
use Rattle.tile_finish.proofs.parts.parts_of_tile.Goals as goal

pub tile_infos-requires : goal.tile_infos-requires
tile_infos-requires c = places_inside (length c.args.pieces.now) c.args.rows.now c.deref.result.now c.requires (c.deref.ensures.value ∙ c.in_ok-places.ensures)

pub offsets_of_edges-requires : goal.offsets_of_edges-requires
offsets_of_edges-requires c =
    let rows = c.args.rows.now in
    let pieces = c.args.pieces.now in
    let at = c.deref.ensures.value ∙ c.in_ok-places.ensures in
    let inside = places_inside (length pieces) rows (piece_places rows) c.requires (λ i. piece_places rows) in
    let infos = c.in_ok-made.ensures.infos ∙ ap (λ ns. entries_of_pieces (pieces_at pieces ns)) at in
    starts_are pieces rows c.deref-in-Ok.result.now c.as_slice.result.now c.in_ok-made.made.infos (c.deref-in-Ok.ensures.value ∙ c.in_ok-places.ensures)
    (c.as_slice.ensures ∙ c.in_ok-made.ensures.offsets ∙ ap starts_of (sym c.in_ok-made.ensures.infos)) infos
    (c.pieces_at_places.ensures.count pieces (piece_places rows) inside) c.in-Ok.ensures.short.few_infos
