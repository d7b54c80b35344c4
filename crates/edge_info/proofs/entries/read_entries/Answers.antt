use Rattle.std.proofs.Common.{rules}
use Rattle.std.proofs.lemmas.Result.{err_from_is_err_and}
use Rattle.section_grammar.proofs.Steps.{all_goes_on, all_ends, all_done}
use Rattle.edge_info.specs.EntryReading.{entry_at, entries_at}
use Rattle.edge_info.proofs.Shrinking.{entry_shrinks}
use Rattle.edge_info.proofs.EntryParts.{key_rises-push}
use Rattle.edge_info.proofs.entries.read_entries.Goals as goal

pub returns-in_err-key : goal.returns-in_err-key
returns-in_err-key c =
    let p = err_from_is_err_and c.from_residual.result c.from_residual.ensures.1 in
    rw (p.1, p.2) (all_ends (entry_at c.args.end c.args.texts) (entry_shrinks c.args.end c.args.texts) c.in_err-key.field-0.0 c.loop-rest.infos c.loop-rest.rest.now (entries_at c.args.end c.args.texts c.args.section.now) (search rules) (c.in_err-key.ensures c.loop-rest.infos c.loop-rest.invariant.1) c.loop-rest.invariant.0)

pub loop-rest-smaller : goal.loop-rest-smaller
loop-rest-smaller c = entry_shrinks c.args.end c.args.texts c.loop-rest.infos c.loop-rest.rest.now (record { key = c.in_ok-key.key; shape = c.entry_of.new.points.items; texts = c.entry_of.new.names.items }) c.in_ok-key.after.now (c.in_ok-key.ensures c.loop-rest.infos c.loop-rest.invariant.1)

pub loop-rest-preserved : goal.loop-rest-preserved
loop-rest-preserved c =
    rw (c.in_ok-push_parts.ensures.ok, c.deref.ensures.value, c.deref-in-loop-rest.ensures.value) (
      all_goes_on (entry_at c.args.end c.args.texts) (entry_shrinks c.args.end c.args.texts) c.loop-rest.infos c.loop-rest.rest.now (record { key = c.in_ok-key.key; shape = c.entry_of.new.points.items; texts = c.entry_of.new.names.items }) c.in_ok-key.after.now (entries_at c.args.end c.args.texts c.args.section.now) (search rules) (c.in_ok-key.ensures c.loop-rest.infos c.loop-rest.invariant.1) c.loop-rest.invariant.0,
      λ key. key_rises-push c.loop-rest.infos (record { key = c.in_ok-key.key; shape = c.entry_of.new.points.items; texts = c.entry_of.new.names.items }) key,
    )

pub returns : goal.returns
returns c = all_done (entry_at c.args.end c.args.texts) c.loop-rest.infos c.loop-rest.rest.now (entries_at c.args.end c.args.texts c.args.section.now) (search rules) c.loop-rest.invariant.0
