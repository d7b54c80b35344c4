use Rattle.std.proofs.Common.{ap, sym, ◌∙◌}
use Rattle.tile_records.specs.Edges.{edge_read}
use Rattle.tile_bytes.specs.Items.{edge_passes}
use Rattle.tile_bytes.proofs.RecordSteps.{record_read, record_refused}
use Rattle.tile_bytes.proofs.items.edge_of.Goals as goal

pub returns-then-not-edge_passes-clause-edge : goal.returns-then-not-edge_passes-clause-edge
returns-then-not-edge_passes-clause-edge c = λ before.
    record_refused edge_read (edge_passes c.args.level) 9 c.args.end before c.args.bytes.now c.in-Some.edge c.place-at.result c.if-bytes-lt32.false
    (ap edge_read (sym c.four_words.ensures) ∙ sym c.in-Some.ensures.read)
    (sym (c.edge_passes.ensures before) ∙ c.if-not-edge_passes.true) c.place-at.ensures

pub returns-clause-edge : goal.returns-clause-edge
returns-clause-edge c = λ before.
    record_read edge_read (edge_passes c.args.level) 9 c.args.end before c.args.bytes.now c.in-Some.edge c.if-bytes-lt32.false
    (ap edge_read (sym c.four_words.ensures) ∙ sym c.in-Some.ensures.read)
    (sym (c.edge_passes.ensures before) ∙ c.if-not-edge_passes.false)
