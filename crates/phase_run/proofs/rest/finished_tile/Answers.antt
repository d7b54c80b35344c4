use Rattle.std.proofs.Common.{sym, ◌∙◌, subst}
use Rattle.tile_machine.specs.At.{At}
use Rattle.tile_machine.proofs.Bridges.{at_read}
use Rattle.phase_run.proofs.rest.finished_tile.Goals as goal

pub rewrite-requires-clause-world : goal.rewrite-requires-clause-world
rewrite-requires-clause-world g c = (
  c.args.world.now.value.items,
  c.requires.fits,
  sym c.requires.parts,
  sym c.requires.here
      ∙ subst (λ t. At c.args.tiles.now c.args.i t) (sym (c.in_ok-tile.ensures ∙ c.index-tiles-i.is)) (at_read c.args.tiles.now c.args.i c.index-tiles-i.result c.requires.place),
)

pub returns-in-Ok : goal.returns-in-Ok
returns-in-Ok g c =
    c.in-Ok.ensures.done c.args.world.now.value.items c.requires.fits (sym c.requires.parts)
    (sym c.requires.here
    ∙ subst (λ t. At c.args.tiles.now c.args.i t) (sym (c.in_ok-tile.ensures ∙ c.index-tiles-i.is)) (at_read c.args.tiles.now c.args.i c.index-tiles-i.result c.requires.place))
