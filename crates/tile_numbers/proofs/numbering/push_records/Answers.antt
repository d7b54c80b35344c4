use Rattle.std.proofs.Common.{◌≡◌, ◌+◌, ◌-◌, ◌∙◌, ◌++◌, length, ap, arith}
use Rattle.std.specs.Prelude.{Result, Ok, Err, OnOk}
use Rattle.tile_numbers.specs.LookUps.{other_nodes}
use Rattle.tile_numbers.specs.Records.{numbered_edges}
use Rattle.tile_numbers.proofs.RecordLists.{nodes_next, node_next, count_so_far, part_within, edges_low, others_next, others_low, others_counted}
use Rattle.tile_numbers.proofs.OtherNodes.{others_few}
use Rattle.tile_numbers.proofs.numbering.push_records.Goals as goal

on_ok : {T E : Type 0} {P Q : Type 0} (r : Result T E) → (P → Q) → OnOk r P → OnOk r Q
on_ok (Ok v) f p = f p
on_ok (Err e) f p = tt

pub overflow_cast-from : goal.overflow_cast-from
overflow_cast-from c =
    omega (arith, c.len-from.ensures, edges_low c.args.tiles.now c.args.rows.now c.args.offsets.now c.args.k c.args.tile.now.edges.items c.requires.rows c.requires.offsets c.requires.before.edges_are)

pub node_record-requires-clause-edges : goal.node_record-requires-clause-edges
node_record-requires-clause-edges c =
    omega (arith, c.len-from.ensures, edges_low c.args.tiles.now c.args.rows.now c.args.offsets.now c.args.k c.args.tile.now.edges.items c.requires.rows c.requires.offsets c.requires.before.edges_are)

pub overflow_cast-shifts : goal.overflow_cast-shifts
overflow_cast-shifts c = omega (arith, c.len-shifts.ensures, others_low c.args.tiles.now c.args.rows.now c.args.k c.args.tile.now.transitions.items c.requires.rows c.requires.before.transitions_are)

pub node_record-requires-clause-transitions : goal.node_record-requires-clause-transitions
node_record-requires-clause-transitions c = omega (arith, c.len-shifts.ensures, others_low c.args.tiles.now c.args.rows.now c.args.k c.args.tile.now.transitions.items c.requires.rows c.requires.before.transitions_are)

pub overflow_cast-others : goal.overflow_cast-others
overflow_cast-others c =
    let shifted : c.len-shifts.result ≡ length c.args.tile.now.transitions.items = omega (arith, c.len-shifts.ensures) in
    let more : c.len.result ≡ length c.push_transitions.new.ids.items = omega (arith, c.len.ensures) in
    let is = c.in_ok-push_transitions.ensures ∙ ap (λ l. c.args.tile.now.transitions.items ++ other_nodes c.args.tiles.now l c.node-node.result) c.level.ensures in
    let many = others_counted c.args.tiles.now c.args.rows.now.level c.node-node.result c.args.tile.now.transitions.items c.push_transitions.new.ids.items c.len-shifts.result c.len.result shifted more is in
    omega (arith, many, others_few c.args.tiles.now c.args.rows.now.level c.node-node.result c.requires.rows.level)

pub node_record-requires-clause-others : goal.node_record-requires-clause-others
node_record-requires-clause-others c =
    let shifted : c.len-shifts.result ≡ length c.args.tile.now.transitions.items = omega (arith, c.len-shifts.ensures) in
    let more : c.len.result ≡ length c.push_transitions.new.ids.items = omega (arith, c.len.ensures) in
    let is = c.in_ok-push_transitions.ensures ∙ ap (λ l. c.args.tile.now.transitions.items ++ other_nodes c.args.tiles.now l c.node-node.result) c.level.ensures in
    let many = others_counted c.args.tiles.now c.args.rows.now.level c.node-node.result c.args.tile.now.transitions.items c.push_transitions.new.ids.items c.len-shifts.result c.len.result shifted more is in
    omega (arith, many, others_few c.args.tiles.now c.args.rows.now.level c.node-node.result c.requires.rows.level)

pub part_of-requires-clause-inside : goal.part_of-requires-clause-inside
part_of-requires-clause-inside c =
    omega (arith, c.len-from.ensures, c.edges_len.ensures, part_within c.args.tiles.now c.args.rows.now.level c.args.rows.now.tile c.args.rows.now.nodes c.args.offsets.now c.requires.offsets c.args.k c.node-node.result c.args.tile.now.edges.items c.requires.inside c.node-node.ensures c.requires.before.edges_are)

pub returns : goal.returns
returns c =
    let rows = c.args.rows.now in
    let tiles = c.args.tiles.now in
    let shifted : c.len-shifts.result ≡ length c.args.tile.now.transitions.items = omega (arith, c.len-shifts.ensures) in
    let more : c.len.result ≡ length c.push_transitions.new.ids.items = omega (arith, c.len.ensures) in
    let is = c.in_ok-push_transitions.ensures ∙ ap (λ l. c.args.tile.now.transitions.items ++ other_nodes tiles l c.node-node.result) c.level.ensures in
    let many : c.len-from.result ≡ length c.args.tile.now.edges.items = omega (arith, c.len-from.ensures) in
    let to_is : c.len-from.result + c.edges_len.result ≡ c.len-from.result + length c.node-node.result.edges = omega (arith, c.edges_len.ensures) in
    on_ok c.push_edges.result (λ edges. record {
      nodes_are =
          nodes_next tiles rows.level rows.nodes c.args.k c.node-node.result c.args.tile.now.nodes.items c.push.new.self.items c.node_record.result c.len-from.result c.len-shifts.result (c.len.result - c.len-shifts.result) c.requires.inside c.node-node.ensures c.requires.before.nodes_are
          (many ∙ count_so_far tiles rows.level rows.tile rows.nodes c.args.offsets.now c.requires.offsets c.args.k c.args.tile.now.edges.items c.requires.before.edges_are)
          (shifted ∙ ap length c.requires.before.transitions_are)
          (others_counted tiles rows.level c.node-node.result c.args.tile.now.transitions.items c.push_transitions.new.ids.items c.len-shifts.result c.len.result shifted more is)
          c.node_record.ensures c.in_ok-push.ensures.items;
      edges_are =
          node_next tiles rows.level rows.tile rows.nodes c.args.offsets.now c.requires.offsets c.args.k c.node-node.result c.part_of.result.now c.args.tile.now.edges.items c.push_edges.new.edges.items c.len-from.result (c.len-from.result + c.edges_len.result) c.requires.inside c.node-node.ensures many to_is c.part_of.ensures.part c.requires.before.edges_are
          (edges ∙ (λ j. c.args.tile.now.edges.items ++ numbered_edges tiles (c.level-2.ensures j) (c.tile.ensures j) c.node-node.result.edges c.part_of.result.now));
      transitions_are = others_next tiles rows.level rows.nodes c.args.k c.node-node.result c.args.tile.now.transitions.items c.push_transitions.new.ids.items c.requires.inside c.node-node.ensures c.requires.before.transitions_are is;
    }) c.push_edges.ensures
