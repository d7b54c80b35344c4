use Rattle.std.proofs.lemmas.Bool.{ltb-true}
use Rattle.osm_model.proofs.NodeLemmas.{before_last}
use Rattle.osm_model.proofs.node_spans.are_before.Goals as goal

pub returns-else-number-eq0 : goal.returns-else-number-eq0
returns-else-number-eq0 c =
    λ h. before_last _ _ _ (record { place = 0; from = 0; to = 0 }) c.requires.rise c.requires.inside c.if-number-eq0.false (ltb-true _ _ h)
