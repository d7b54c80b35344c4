use Rattle.std.proofs.Common.{arith}
use Rattle.work_tile.specs.declared.edge_rows.WorkEdge.{WorkEdge}
use Rattle.tile_finish.proofs.LoopLemmas.{node_next, nodes_whole}
use Rattle.tile_finish.proofs.edge_places.places_of_edges.Goals as goal

pub loop-k-preserved : goal.loop-k-preserved
loop-k-preserved c =
    node_next (λ (e : WorkEdge). e.place) c.loop-k.places.items c.push_places.new.places.items c.args.rows.now.nodes c.loop-k.k c.node.result (omega arith) c.node.ensures c.loop-k.invariant c.in_ok-push_places.ensures

pub returns : goal.returns
returns c = nodes_whole (λ (e : WorkEdge). e.place) c.loop-k.places.items c.args.rows.now.nodes c.loop-k.k (omega arith) c.loop-k.invariant
