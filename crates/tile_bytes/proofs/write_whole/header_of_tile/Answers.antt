use Rattle.std.proofs.Common.{refl, arith}
use Rattle.tile_bytes.specs.Tiles.{header_of_tile}
use Rattle.tile_bytes.proofs.HeaderLaws.{parts_same}
use Rattle.tile_bytes.proofs.TileLaws.{texts_count}
use Rattle.tile_bytes.proofs.write_whole.header_of_tile.Goals as goal

pub overflow_cast-result-6 : goal.overflow_cast-result-6
overflow_cast-result-6 c = omega (arith, texts_count c.args.tile.now.texts)

pub returns : goal.returns
unfolding header_of_tile
returns c = parts_same c.args.tile.now.id refl c.len.ensures c.len-2.ensures c.len-3.ensures c.requires.chains c.requires.sequences c.len-4.ensures c.requires.infos c.requires.texts
