use Rattle.std.proofs.Common.{◌≡◌, [], arith, rules, drop}
use Rattle.std.proofs.lemmas.Result.{err_from_is_err_and}
use Rattle.section_grammar.specs.Reads.{read_many}
use Rattle.section_grammar.proofs.Steps.{goes_on, ends, is_done}
use Rattle.tile_bytes.specs.Items.{node_record_at}
use Rattle.tile_bytes.proofs.items.nodes_of.Goals as goal

pub returns-in_err-node-clause-nodes : goal.returns-in_err-node-clause-nodes
returns-in_err-node-clause-nodes c =
    let item = node_record_at c.args.level c.args.tile c.args.end in
    let p = err_from_is_err_and c.from_residual-in_err-node.result c.from_residual-in_err-node.ensures.1 in
    rw (p.1, p.2) (ends item c.in_err-node.field-0.0 c.loop.nodes.items c.args.count c.loop.counter c.loop.rest.now (read_many item c.args.count [] c.args.bytes.now) c.loop-test.true (c.in_err-node.ensures.node c.loop.nodes.items c.loop.invariant.1) c.loop.invariant.0)

pub loop-preserved : goal.loop-preserved
loop-preserved c =
    let item = node_record_at c.args.level c.args.tile c.args.end in
    let after : c.split_at.result.1.now ≡ drop 32 c.loop.rest.now = search rules in
    rw (c.in_ok-push.ensures.items, after) (
      goes_on item c.loop.nodes.items c.args.count c.loop.counter c.loop.rest.now c.in_ok-node.node (drop 32 c.loop.rest.now) (read_many item c.args.count [] c.args.bytes.now) c.loop-test.true (c.in_ok-node.ensures.node c.loop.nodes.items c.loop.invariant.1) c.loop.invariant.0,
      c.with_node-sums.ensures.sums c.loop.nodes.items c.loop.invariant.1,
      omega (arith, c.with_node-sums.ensures.edges),
      omega (arith, c.with_node-sums.ensures.transitions),
    )

pub returns-clause-nodes : goal.returns-clause-nodes
returns-clause-nodes c =
    let item = node_record_at c.args.level c.args.tile c.args.end in
    is_done item c.loop.nodes.items c.args.count c.loop.counter c.loop.rest.now (read_many item c.args.count [] c.args.bytes.now) c.loop-test.false c.loop.invariant.0
