use Rattle.std.proofs.lemmas.List.Sorted.{IsPermutation-refl}
use Rattle.osm_blocks.specs.Extracts.{node_id}
use Rattle.osm_blocks.proofs.Scans.{orders_sorted}
use Rattle.osm_blocks.proofs.order.order_nodes.Goals as goal

pub returns-then-rises : goal.returns-then-rises
returns-then-rises c = record { same = IsPermutation-refl c.args.nodes.now; rises = c.rises.ensures.0 c.if-rises.true }

pub returns : goal.returns
returns c = orders_sorted node_id c.args.nodes.now c.sort_by_id.new.self _ c.in_ok-sort_by_id.ensures.permutation c.in_ok-sort_by_id.ensures.sorted c.node_twice.ensures
