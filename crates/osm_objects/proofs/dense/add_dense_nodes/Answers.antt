use Rattle.std.proofs.Common.{◌≡◌, ◌∙◌, arith, sym, length}
use Rattle.osm_messages.specs.RawNumbers.{seen_raw_dense}
use Rattle.osm_objects.specs.Seen.{table_of}
use Rattle.osm_objects.proofs.DenseChain.{dense-nodes}
use Rattle.osm_objects.proofs.Lengths.{sums-length, even-lengths}
use Rattle.osm_objects.proofs.dense.add_dense_nodes.Goals as goal

pub add_nodes-requires-clause-lats : goal.add_nodes-requires-clause-lats
add_nodes-requires-clause-lats c =
    sums-length _ _ _ c.in_ok-sum_up-2.ensures ∙ sym (even-lengths _ _ _ c.in_ok-check_even.ensures) ∙ sym (sums-length _ _ _ c.in_ok-sum_up.ensures)

pub add_nodes-requires-clause-lons : goal.add_nodes-requires-clause-lons
add_nodes-requires-clause-lons c =
    sums-length _ _ _ c.in_ok-sum_up-3.ensures ∙ sym (even-lengths _ _ _ c.in_ok-check_even-2.ensures) ∙ sym (sums-length _ _ _ c.in_ok-sum_up.ensures)

pub add_nodes-requires-clause-groups : goal.add_nodes-requires-clause-groups
add_nodes-requires-clause-groups c =
    let count : length c.sum_up.new.sums.items ≡ length c.args.dense.now.id.now = sums-length _ _ _ c.in_ok-sum_up.ensures in
    rw count c.in_ok-check_groups.ensures

pub returns-clause-nodes : goal.returns-clause-nodes
returns-clause-nodes c =
    rw (dense-nodes (table_of c.args.texts.now) c.args.scale c.args.at (seen_raw_dense c.args.dense.now) _ _ _ c.in_ok-check_even.ensures c.in_ok-check_even-2.ensures c.in_ok-sum_up.ensures c.in_ok-sum_up-2.ensures c.in_ok-sum_up-3.ensures)
    c.add_nodes.ensures.nodes

pub add_nodes-requires-clause-places : goal.add_nodes-requires-clause-places
add_nodes-requires-clause-places c = omega (arith, sums-length c.args.at c.args.dense.now.id.now c.sum_up.new.sums.items c.in_ok-sum_up.ensures, c.requires.places)
