use Rattle.std.proofs.Common.{◌≡◌, ◌≤◌, [], arith, rules, drop, Bool, true, false}
use Rattle.std.specs.Int.{from_bool}
use Rattle.std.proofs.lemmas.Result.{err_from_is_err_and}
use Rattle.section_grammar.specs.Reads.{read_many}
use Rattle.section_grammar.proofs.Steps.{goes_on, ends, is_done}
use Rattle.tile_bytes.specs.Items.{edge_record_at}
use Rattle.tile_bytes.proofs.SumLaws.{shortcuts_push}
use Rattle.tile_bytes.proofs.items.edges_of.Goals as goal

pub returns-in_err-edge-clause-edges : goal.returns-in_err-edge-clause-edges
returns-in_err-edge-clause-edges c =
    let item = edge_record_at c.args.level c.args.end in
    let p = err_from_is_err_and c.from_residual-in_err-edge.result c.from_residual-in_err-edge.ensures.1 in
    rw (p.1, p.2) (ends item c.in_err-edge.field-0.0 c.loop.edges.items c.args.count c.loop.counter c.loop.rest.now (read_many item c.args.count [] c.args.bytes.now) c.loop-test.true (c.in_err-edge.ensures.edge c.loop.edges.items) c.loop.invariant.0)

one : (b : Bool) → from_bool b ≤ 1
one true = omega arith
one false = omega arith

pub loop-preserved : goal.loop-preserved
loop-preserved c =
    let item = edge_record_at c.args.level c.args.end in
    let after : c.split_at.result.1.now ≡ drop 32 c.loop.rest.now = search rules in
    rw (c.in_ok-push.ensures.items, after) (
      goes_on item c.loop.edges.items c.args.count c.loop.counter c.loop.rest.now c.in_ok-edge.edge (drop 32 c.loop.rest.now) (read_many item c.args.count [] c.args.bytes.now) c.loop-test.true (c.in_ok-edge.ensures.edge c.loop.edges.items) c.loop.invariant.0,
      omega (arith, shortcuts_push c.loop.edges.items c.in_ok-edge.edge, c.shortcuts_at-shortcuts.ensures),
      omega (arith, one c.in_ok-edge.edge.shortcut, c.shortcuts_at-shortcuts.ensures),
    )

pub returns-clause-edges : goal.returns-clause-edges
returns-clause-edges c =
    let item = edge_record_at c.args.level c.args.end in
    is_done item c.loop.edges.items c.args.count c.loop.counter c.loop.rest.now (read_many item c.args.count [] c.args.bytes.now) c.loop-test.false c.loop.invariant.0
