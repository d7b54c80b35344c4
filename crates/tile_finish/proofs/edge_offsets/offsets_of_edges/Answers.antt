use Rattle.std.proofs.Common.{arith}
use Rattle.work_tile.specs.declared.edge_rows.WorkEdge.{WorkEdge}
use Rattle.tile_finish.specs.Finishing.{start_at_place}
use Rattle.tile_finish.proofs.LoopLemmas.{node_next, nodes_whole}
use Rattle.tile_finish.proofs.edge_offsets.offsets_of_edges.Goals as goal

pub loop-k-preserved : goal.loop-k-preserved
loop-k-preserved c =
    node_next (λ (e : WorkEdge). start_at_place c.args.places.now c.args.starts.now e.place) c.loop-k.offsets.items c.push_offsets.new.offsets.items c.args.rows.now.nodes c.loop-k.k c.node.result (omega arith) c.node.ensures c.loop-k.invariant c.in_ok-push_offsets.ensures

pub returns : goal.returns
returns c =
    nodes_whole (λ (e : WorkEdge). start_at_place c.args.places.now c.args.starts.now e.place) c.loop-k.offsets.items c.args.rows.now.nodes c.loop-k.k (omega arith) c.loop-k.invariant
