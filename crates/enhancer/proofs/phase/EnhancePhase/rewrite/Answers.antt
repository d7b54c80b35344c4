use Rattle.std.proofs.Common.{◌<◌, map, sym, subst, ◌∙◌, ap, All}
use Rattle.tile_machine.specs.At.{At}
use Rattle.tile_machine.specs.FinishedBy.{finished_by}
use Rattle.tile_machine.proofs.FromParts.{finished-at}
use Rattle.work_tile.specs.WorkRows.{WorkRows}
use Rattle.enhancer.specs.ReadableRows.{plain_rows}
use Rattle.enhancer.specs.Enhanced.{StandsIn, enhanced_at, enhanced_tile}
use Rattle.enhancer.proofs.WorldTile.{tile_counted, nodes_stand}
use Rattle.enhancer.proofs.phase.EnhancePhase.rewrite.Goals as goal

pub enhance_rows-requires-clause-shown : goal.enhance_rows-requires-clause-shown
enhance_rows-requires-clause-shown g c = (map plain_rows c.requires.world.0, c.requires.world.2, c.requires.world.1)

pub enhance_rows-requires-clause-tile : goal.enhance_rows-requires-clause-tile
enhance_rows-requires-clause-tile g c =
    subst (λ (r : WorkRows). r.tile < 1_036_800) (sym c.rows.ensures)
    (tile_counted c.args.self.now.places c.requires.world.0 c.requires.world.1 c.args._i c.args.tile c.requires.world.3)

pub enhance_rows-requires-clause-stand : goal.enhance_rows-requires-clause-stand
enhance_rows-requires-clause-stand g c =
    subst (λ (r : WorkRows). All (StandsIn r.tile) r.nodes) (sym c.rows.ensures)
    (nodes_stand c.args.self.now.places c.requires.world.0 c.requires.world.1 c.args._i c.args.tile c.requires.world.3)

pub returns-in-Ok-clause-done : goal.returns-in-Ok-clause-done
returns-in-Ok-clause-done g c = λ world fits shown at.
    let ps = map plain_rows world in
    let pieces = c.args.self.now.pieces.now in
    let places = c.args.self.now.places in
    let is = c.in-Ok.ensures ∙ c.in_ok-rows.ensures.done ps shown fits ∙ ap (enhanced_tile pieces places ps) c.rows.ensures in
    subst (λ t. At (finished_by plain_rows (enhanced_at pieces places) world) c.args._i t) (sym is)
    (finished-at plain_rows (enhanced_at pieces places) world c.args._i c.args.tile at)
