use Rattle.std.proofs.Common.{◌∙◌, ◌++◌, sym, ap, arith}
use Rattle.std.proofs.lemmas.List.{append-nil}
use Rattle.tile_numbers.proofs.RecordLists.{no_edges_yet, edges_next, edges_all}
use Rattle.tile_numbers.proofs.numbering.push_edges.Goals as goal

pub loop-k-init : goal.loop-k-init
loop-k-init c =
    sym (ap (λ l. c.args.edges.now.items ++ l) (no_edges_yet c.args.tiles.now c.args.level c.args.tile _) ∙ append-nil c.args.edges.now.items)

pub loop-k-preserved : goal.loop-k-preserved
loop-k-preserved c =
    edges_next c.args.tiles.now c.args.level c.args.tile c.args.edges.now.items c.loop-k.edges.items c.push.new.self.items c.args.node.now.edges c.args.offsets.now c.loop-k.k c.edge.result c.edge_record.result c.requires.offsets (omega arith) c.edge.ensures c.edge_record.ensures c.loop-k.invariant c.in_ok-push.ensures.items

pub returns : goal.returns
returns c =
    edges_all c.args.tiles.now c.args.level c.args.tile c.args.edges.now.items c.loop-k.edges.items c.args.node.now.edges c.args.offsets.now c.loop-k.k c.requires.offsets (omega arith) c.loop-k.invariant
