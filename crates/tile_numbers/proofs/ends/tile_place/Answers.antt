use Rattle.std.proofs.Common.{◌<◌, ◌^◌, ◌∙◌, sym, ap, arith}
use Rattle.work_tile.specs.WorkRows.{WorkRows}
use Rattle.tile_numbers.proofs.TilesFound.{tile_at, numbered_at, no_tile}
use Rattle.tile_numbers.proofs.ends.tile_place.Goals as goal

pub returns-then-tile-clause-some : goal.returns-then-tile-clause-some
returns-then-tile-clause-some c =
    tile_at c.args.tiles.now c.args.level c.args.tile c.args.hint c.index-tiles-hint.result c.requires.tiles (omega arith) c.index-tiles-hint.is
    (ap (λ (r : WorkRows). r.level) (sym c.rows-rows.ensures) ∙ omega arith) (ap (λ (r : WorkRows). r.tile) (sym c.rows-rows.ensures) ∙ omega arith)

pub returns-in-Some-clause-some : goal.returns-in-Some-clause-some
returns-in-Some-clause-some c =
    let found = c.in-Some.ensures.some in
    let low : c.args.tile < 2 ^ 32 = omega arith in
    numbered_at c.args.tiles.now c.args.places.now c.args.level c.args.tile c.in-Some.place c.requires.tiles c.requires.places low found.0 found.1

pub returns-in-None-clause-none : goal.returns-in-None-clause-none
returns-in-None-clause-none c = no_tile c.args.tiles.now c.args.places.now c.args.level c.args.tile c.requires.places c.in-None.ensures.none
