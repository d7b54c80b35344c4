use Rattle.tile_bytes.proofs.WriteLaws.{names_it, parts_spell}
use Rattle.tile_bytes.proofs.write_whole.spelled.Goals as goal

pub push_header-requires-clause-tile : goal.push_header-requires-clause-tile
push_header-requires-clause-tile c = names_it c.args.tile.now c.header_of_tile-header.result c.header_of_tile-header.ensures c.requires.passes

pub returns : goal.returns
returns c =
    rw (c.in_ok-push_padding.ensures, c.in_ok-push_infos_texts.ensures, c.in_ok-push_lists.ensures, c.in_ok-push_records.ensures, c.in_ok-push_header.ensures, c.in_ok-out.ensures.items)
    (parts_spell c.args.tile.now c.header_of_tile-header.result c.args.sizes.infos c.args.sizes.texts c.header_of_tile-header.ensures c.requires.infos c.requires.texts)
