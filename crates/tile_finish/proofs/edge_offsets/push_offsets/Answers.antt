use Rattle.std.proofs.Common.{sym, arith}
use Rattle.std.proofs.lemmas.List.{append-nil}
use Rattle.work_tile.specs.declared.edge_rows.WorkEdge.{WorkEdge}
use Rattle.tile_finish.specs.Finishing.{start_at_place}
use Rattle.tile_finish.proofs.LoopLemmas.{edge_next, edges_whole}
use Rattle.tile_finish.proofs.edge_offsets.push_offsets.Goals as goal

pub loop-k-init : goal.loop-k-init
loop-k-init c = sym (append-nil c.args.offsets.now.items)

pub loop-k-preserved : goal.loop-k-preserved
loop-k-preserved c =
    edge_next (λ (e : WorkEdge). start_at_place c.args.places.now c.args.starts.now e.place) c.args.offsets.now.items c.loop-k.offsets.items c.push.new.self.items c.args.node.now.edges c.loop-k.k c.edge.result c.offset_of.result (omega arith) c.edge.ensures c.offset_of.ensures c.loop-k.invariant c.in_ok-push.ensures.items

pub returns : goal.returns
returns c =
    edges_whole (λ (e : WorkEdge). start_at_place c.args.places.now c.args.starts.now e.place) c.args.offsets.now.items c.loop-k.offsets.items c.args.node.now.edges c.loop-k.k (omega arith) c.loop-k.invariant
