use Rattle.std.proofs.lemmas.List.Sorted.{IsPermutation-refl}
use Rattle.osm_blocks.specs.Extracts.{relation_id}
use Rattle.osm_blocks.proofs.Scans.{orders_sorted}
use Rattle.osm_blocks.proofs.order.order_relations.Goals as goal

pub returns-then-rises : goal.returns-then-rises
returns-then-rises c = record { same = IsPermutation-refl c.args.relations.now; rises = c.rises.ensures.0 c.if-rises.true }

pub returns : goal.returns
returns c = orders_sorted relation_id c.args.relations.now c.sort_by_id.new.self _ c.sort_by_id.ensures.permutation c.sort_by_id.ensures.sorted c.relation_twice.ensures
