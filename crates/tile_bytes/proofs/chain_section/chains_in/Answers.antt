use Rattle.std.proofs.Common.{◌∷◌, [], arith, sym, ◌∙◌}
use Rattle.std.proofs.lemmas.Result.{err_from_is_err_and}
use Rattle.std.proofs.lemmas.List.{length-append}
use Rattle.std.proofs.lemmas.Bool.{eqb-true, eqb-false}
use Rattle.section_grammar.specs.Reads.{read_many}
use Rattle.section_grammar.specs.Answers.{ended}
use Rattle.section_grammar.proofs.Steps.{goes_on, ends, is_done, bind_fails, filled, unfilled}
use Rattle.tile_bytes.specs.Chains.{chain_at, chains_at}
use Rattle.tile_bytes.proofs.chain_section.chains_in.Goals as goal

pub returns-in_err-after-clause-chains : goal.returns-in_err-after-clause-chains
unfolding chains_at
returns-in_err-after-clause-chains c =
    let item = chain_at c.args.level c.args.end in
    let total = read_many item c.args.count [] c.args.bytes.now in
    let p = err_from_is_err_and c.from_residual.result c.from_residual.ensures.1 in
    rw (p.1, p.2) (bind_fails c.in_err-after.field-0.0 total (λ x. ended 11 c.args.end x.0 x.1)
    (ends item c.in_err-after.field-0.0 c.loop.chains c.args.count c.loop.counter c.loop.rest.now total c.loop-test.true (c.in_err-after.ensures c.loop.chains) c.loop.invariant.0))

pub loop-preserved : goal.loop-preserved
loop-preserved c =
    let item = chain_at c.args.level c.args.end in
    rw (c.in_ok-push.ensures.ok, c.deref.ensures.value) (
      goes_on item c.loop.chains c.args.count c.loop.counter c.loop.rest.now c.chain_of.new.ids.items c.in_ok-after.after.now (read_many item c.args.count [] c.args.bytes.now) c.loop-test.true (c.in_ok-after.ensures c.loop.chains) c.loop.invariant.0,
      omega (arith, length-append c.loop.chains (c.chain_of.new.ids.items ∷ [])),
    )

pub returns-then-is_empty-clause-chains : goal.returns-then-is_empty-clause-chains
unfolding chains_at
returns-then-is_empty-clause-chains c =
    let item = chain_at c.args.level c.args.end in
    let total = read_many item c.args.count [] c.args.bytes.now in
    let all = is_done item c.loop.chains c.args.count c.loop.counter c.loop.rest.now total c.loop-test.false c.loop.invariant.0 in
    rw all (filled 11 c.args.end c.loop.chains c.loop.rest.now (eqb-true _ _ (sym c.is_empty.ensures ∙ c.if-is_empty.true)))

pub returns-else-is_empty-clause-chains : goal.returns-else-is_empty-clause-chains
unfolding chains_at
returns-else-is_empty-clause-chains c =
    let item = chain_at c.args.level c.args.end in
    let total = read_many item c.args.count [] c.args.bytes.now in
    let all = is_done item c.loop.chains c.args.count c.loop.counter c.loop.rest.now total c.loop-test.false c.loop.invariant.0 in
    rw all (unfilled 11 c.args.end c.place.result c.loop.chains c.loop.rest.now (eqb-false _ _ (sym c.is_empty.ensures ∙ c.if-is_empty.false)) c.place.ensures)
