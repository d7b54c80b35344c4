-- The tile has the nodes so far.
use Rattle.std.proofs.Common.{◌≡◌, map, take, get_or}
use Rattle.edge_builder.specs.BaseTiles.{base_node}
use Rattle.edge_builder.proofs.JunctionLemmas.{no_junction}
use Rattle.edge_builder.proofs.tiles.make_tile.Given as goal

abbrev pub invariant-loop-i : goal.invariant-loop-i
invariant-loop-i l =
    l.rows ≡ record { level = 2; tile = l.tile; nodes = map (λ p. base_node l.plan.junctions.now l.plan.pieces.now (get_or l.plan.junctions.now p no_junction)) (take l.i l.here) }
