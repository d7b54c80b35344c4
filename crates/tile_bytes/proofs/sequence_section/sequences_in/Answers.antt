use Rattle.std.proofs.Common.{◌≡◌, [], arith, length, sym, ◌∙◌}
use Rattle.std.proofs.lemmas.Bool.{eqb-true, eqb-false}
use Rattle.std.proofs.lemmas.Result.{err_from_is_err_and}
use Rattle.section_grammar.specs.Reads.{read_all}
use Rattle.section_grammar.proofs.Steps.{all_goes_on, all_ends, all_done}
use Rattle.tile_bytes.specs.Sequences.{sequence_at}
use Rattle.tile_bytes.proofs.SequenceSteps.{sequences_shrink}
use Rattle.tile_bytes.proofs.sequence_section.sequences_in.Goals as goal

pub returns-in_err-modes : goal.returns-in_err-modes
returns-in_err-modes c =
    let item = sequence_at c.args.end in
    let total = read_all item (length c.args.bytes.now) [] c.args.bytes.now in
    let p = err_from_is_err_and c.from_residual.result c.from_residual.ensures.1 in
    rw (p.1, p.2) (all_ends item (sequences_shrink c.args.end) c.in_err-modes.field-0.0 c.loop-rest.sequences c.loop-rest.rest.now total (let z : length c.loop-rest.rest.now ≡ 0 → ⊥ = eqb-false _ _ (sym c.is_empty.ensures ∙ c.loop-rest-test.true) in omega arith) c.in_err-modes.ensures c.loop-rest.invariant)

pub loop-rest-smaller : goal.loop-rest-smaller
loop-rest-smaller c = sequences_shrink c.args.end c.loop-rest.sequences c.loop-rest.rest.now _ _ c.in_ok-modes.ensures

pub loop-rest-preserved : goal.loop-rest-preserved
loop-rest-preserved c =
    let item = sequence_at c.args.end in
    let total = read_all item (length c.args.bytes.now) [] c.args.bytes.now in
    rw (c.in_ok-push.ensures.ok, c.deref.ensures.value) (all_goes_on item (sequences_shrink c.args.end) c.loop-rest.sequences c.loop-rest.rest.now _ c.in_ok-modes.after.now total (let z : length c.loop-rest.rest.now ≡ 0 → ⊥ = eqb-false _ _ (sym c.is_empty.ensures ∙ c.loop-rest-test.true) in omega arith) c.in_ok-modes.ensures c.loop-rest.invariant)

pub returns : goal.returns
returns c =
    let item = sequence_at c.args.end in
    let total = read_all item (length c.args.bytes.now) [] c.args.bytes.now in
    all_done item c.loop-rest.sequences c.loop-rest.rest.now total (eqb-true _ _ (sym c.is_empty.ensures ∙ c.loop-rest-test.false)) c.loop-rest.invariant
