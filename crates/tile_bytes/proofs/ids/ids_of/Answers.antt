use Rattle.std.proofs.Common.{◌≡◌, rules, drop}
use Rattle.std.proofs.lemmas.Result.{err_from_is_err_and}
use Rattle.section_grammar.specs.Reads.{read_many}
use Rattle.section_grammar.proofs.Steps.{goes_on, ends, is_done}
use Rattle.tile_bytes.specs.Items.{id_at}
use Rattle.tile_bytes.proofs.ids.ids_of.Goals as goal

pub returns-in_err-id : goal.returns-in_err-id
returns-in_err-id c =
    let item = id_at c.args.rule c.args.check c.args.end in
    let p = err_from_is_err_and c.from_residual.result c.from_residual.ensures.1 in
    rw (p.1, p.2) (ends item c.in_err-id.field-0.0 c.loop.ids.items c.args.count c.loop.counter c.loop.rest.now (read_many item c.args.count c.args.ids.now.items c.args.bytes.now) c.loop-test.true (c.in_err-id.ensures.id c.loop.ids.items) c.loop.invariant)

pub loop-preserved : goal.loop-preserved
loop-preserved c =
    let item = id_at c.args.rule c.args.check c.args.end in
    let after : c.split_at.result.1.now ≡ drop 8 c.loop.rest.now = search rules in
    rw (c.in_ok-push.ensures.items, after) (
    goes_on item c.loop.ids.items c.args.count c.loop.counter c.loop.rest.now c.in_ok-id.id (drop 8 c.loop.rest.now) (read_many item c.args.count c.args.ids.now.items c.args.bytes.now) c.loop-test.true (c.in_ok-id.ensures.id c.loop.ids.items) c.loop.invariant)

pub returns : goal.returns
returns c =
    let item = id_at c.args.rule c.args.check c.args.end in
    is_done item c.loop.ids.items c.args.count c.loop.counter c.loop.rest.now (read_many item c.args.count c.args.ids.now.items c.args.bytes.now) c.loop-test.false c.loop.invariant
