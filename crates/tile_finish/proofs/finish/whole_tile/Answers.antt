use Rattle.std.proofs.Common.{◌≡◌, ◌∙◌, ◌≤◌, ◌^◌, ap, subst, get_or, length, map, arith}
use Rattle.edge_info.specs.Entries.{infos_bytes}
use Rattle.edge_info.specs.Texts.{texts_bytes}
use Rattle.work_tile.specs.WorkRows.{WorkRows}
use Rattle.tile_bytes.specs.declared.tile.Tile.{Tile}
use Rattle.tile_numbers.specs.LookUps.{no_rows}
use Rattle.tile_numbers.specs.Records.{edges_of_rows}
use Rattle.tile_finish.specs.FinishedTiles.{entries_of_rows, texts_of_rows, entry_offset, finished_tile}
use Rattle.tile_finish.specs.Finishing.{IsSectionFault}
use Rattle.tile_finish.proofs.WholeTile.{whole_is, fault_is, whole_passes, rows_there}
use Rattle.tile_finish.proofs.finish.whole_tile.Goals as goal

pub returns-in_ok-tile_of_parts-in-Ok-clause-passes :
    goal.returns-in_ok-tile_of_parts-in-Ok-clause-passes
returns-in_ok-tile_of_parts-in-Ok-clause-passes c =
    let modes = c.args.modes in
    let pieces = c.args.pieces.now in
    let tiles = c.args.tiles.now in
    let rows = get_or tiles c.args.i no_rows in
    let tile = c.in_ok-tile_of_parts-in-Ok.field-0 in
    let made = c.in_ok-tile_of_parts-in-Ok.ensures in
    let parts = c.in-Ok.parts in
    let all = c.requires.finishable in
    let here : c.rows.result.now ≡ rows = rows_there tiles c.args.i c.index-tiles-i.result c.rows.result.now c.requires.inside c.index-tiles-i.is c.rows.ensures in
    let is : tile ≡ finished_tile modes pieces tiles rows =
    whole_is modes pieces tiles rows tile parts.offsets.items parts.infos parts.texts made.tile
    (c.in-Ok.ensures.offsets ∙ ap (λ (r : WorkRows). map (entry_offset pieces r) (edges_of_rows r)) here)
    (c.in-Ok.ensures.infos ∙ ap (entries_of_rows pieces) here)
    (c.in-Ok.ensures.texts ∙ ap (texts_of_rows pieces) here) in
    let few : length tile.texts ≤ 2 ^ 32 = omega (arith, c.in-Ok.ensures.few, ap (λ (t : Tile). length t.texts) made.tile) in
    whole_passes modes pieces tiles rows c.numbered_nodes_pass.ensures c.numbered_edges_pass.ensures c.transitions_pass.ensures c.numbered_counts_agree.ensures
    c.pieces_at_places.ensures.count c.pieces_at_places.ensures.entries c.pieces_at_places.ensures.rise c.tile_infos_pass.ensures.infos c.tile_infos_pass.ensures.texts
    c.requires.modes (all.numbered.each c.args.i no_rows c.requires.inside) (all.each c.args.i no_rows c.requires.inside) all.entries all.rise
    tile is few made.nodes made.edges made.transitions

pub returns-in-Err-clause-fault : goal.returns-in-Err-clause-fault
returns-in-Err-clause-fault c =
    let pieces = c.args.pieces.now in
    let tiles = c.args.tiles.now in
    let here = rows_there tiles c.args.i c.index-tiles-i.result c.rows.result.now c.requires.inside c.index-tiles-i.is c.rows.ensures in
    fault_is c.args.modes pieces tiles (get_or tiles c.args.i no_rows) c.in-Err.fault
    (subst (λ (r : WorkRows). IsSectionFault (length (infos_bytes (entries_of_rows pieces r))) (length (texts_bytes (texts_of_rows pieces r))) c.in-Err.fault) here c.in-Err.ensures.fault)
