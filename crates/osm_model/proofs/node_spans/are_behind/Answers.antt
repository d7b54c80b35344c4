use Rattle.std.proofs.Common.{arith}
use Rattle.std.proofs.lemmas.Bool.{ltb-true}
use Rattle.osm_model.proofs.NodeLemmas.{behind_first}
use Rattle.osm_model.proofs.node_spans.are_behind.Goals as goal

pub returns-else-number-spans : goal.returns-else-number-spans
returns-else-number-spans c =
    λ h. behind_first _ _ _ (record { place = 0; from = 0; to = 0 }) c.requires.rise (omega (arith, c.requires.inside, c.if-number-spans.false)) (ltb-true _ _ h)
