use Rattle.std.proofs.Common.{map}
use Rattle.osm_messages.specs.Texts.{text_step, texts_in}
use Rattle.osm_messages.proofs.Walks.{Going, left_of}
use Rattle.osm_messages.proofs.texts.read_texts.Given as goal

abbrev pub invariant-loop-field : goal.invariant-loop-field
invariant-loop-field l =
    Going (texts_in l.at l.bytes) (left_of text_step (map (λ text. text.now) l.texts.items) l.field-iterator) l.field-iterator
