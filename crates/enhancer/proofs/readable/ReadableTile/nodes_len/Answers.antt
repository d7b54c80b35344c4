use Rattle.std.proofs.Common.{length, sym, ap, ◌∙◌}
use Rattle.std.proofs.lemmas.List.{length-map}
use Rattle.enhancer.specs.ReadableRows.{plain_node}
use Rattle.enhancer.proofs.readable.ReadableTile.nodes_len.Goals as goal

pub returns : goal.returns
returns c = c.nodes_len.ensures ∙ sym (length-map c.rows.result.now.nodes plain_node) ∙ ap (λ r. length r.nodes) c.rows.ensures
