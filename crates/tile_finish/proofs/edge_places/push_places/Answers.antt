use Rattle.std.proofs.Common.{refl, sym, arith}
use Rattle.std.proofs.lemmas.List.{append-nil}
use Rattle.work_tile.specs.declared.edge_rows.WorkEdge.{WorkEdge}
use Rattle.tile_finish.proofs.LoopLemmas.{edge_next, edges_whole}
use Rattle.tile_finish.proofs.edge_places.push_places.Goals as goal

pub loop-k-init : goal.loop-k-init
loop-k-init c = sym (append-nil c.args.places.now.items)

pub loop-k-preserved : goal.loop-k-preserved
loop-k-preserved c =
    edge_next (λ (e : WorkEdge). e.place) c.args.places.now.items c.loop-k.places.items c.push.new.self.items c.args.node.now.edges c.loop-k.k c.edge.result c.edge.result.place (omega arith) c.edge.ensures refl c.loop-k.invariant c.in_ok-push.ensures.items

pub returns : goal.returns
returns c = edges_whole (λ (e : WorkEdge). e.place) c.args.places.now.items c.loop-k.places.items c.args.node.now.edges c.loop-k.k (omega arith) c.loop-k.invariant
