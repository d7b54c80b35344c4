use Rattle.osm_messages.specs.Seen.{seen_features}
use Rattle.osm_messages.specs.Headers.{feature_step, features_in}
use Rattle.osm_messages.proofs.Walks.{Going, left_of}
use Rattle.osm_messages.proofs.header.read_features.Given as goal

abbrev pub invariant-loop-field : goal.invariant-loop-field
invariant-loop-field l =
    Going (features_in l.at l.bytes) (left_of feature_step (seen_features l.features.items) l.field-iterator) l.field-iterator
