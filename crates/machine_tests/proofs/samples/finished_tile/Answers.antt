use Rattle.std.proofs.Common.{◌≡◌, List, map, Result, Ok, Err, IfOk, refl, sym, ◌∙◌, subst}
use Rattle.tile_machine.specs.At.{At}
use Rattle.tile_machine.proofs.Bridges.{at_read}
use Rattle.machine_tests.proofs.samples.finished_tile.Goals as goal

-- what an answer says of each world, said of one
at_world : {T E : Type 0} (r : Result T E) (F S A : List T → Type 0) (P : List T → T → Type 0) (world : List T)
    → IfOk r (λ t. (w : List T) → F w → S w → A w → P w t) → F world → S world → A world → IfOk r (P world)
at_world (Ok t) F S A P world h f s a = h world f s a
at_world (Err e) F S A P world h f s a = tt

pub rewrite-requires-clause-world : goal.rewrite-requires-clause-world
rewrite-requires-clause-world g c = (
  c.args.tiles.now,
  c.requires.fits,
  refl,
  subst (λ t. At c.args.tiles.now c.args.i t) (sym (c.in-Ok.ensures ∙ c.index-tiles-i.is)) (at_read c.args.tiles.now c.args.i c.index-tiles-i.result c.requires.inside),
)

pub returns-clause-done : goal.returns-clause-done
returns-clause-done g c =
    let tiles = c.args.tiles.now in
    let parts = λ (w : List g.row.P-Tile.Denot). map (g.P.Phase.readable c.args.phase.now) w in
    at_world c.rewrite.result (g.P.Phase.fits c.args.phase.now) (λ w. parts w ≡ parts tiles) (λ w. At w c.args.i c.in-Ok.tile)
    (λ w t. At (g.P.Phase.finished c.args.phase.now w) c.args.i t) tiles c.rewrite.ensures.done c.requires.fits refl
    (subst (λ t. At tiles c.args.i t) (sym (c.in-Ok.ensures ∙ c.index-tiles-i.is)) (at_read tiles c.args.i c.index-tiles-i.result c.requires.inside))
