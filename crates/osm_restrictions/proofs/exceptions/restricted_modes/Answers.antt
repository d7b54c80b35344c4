use Rattle.std.proofs.Common.{ap, ◌∙◌, not, false, ◌&&◌, List, ℕ}
use Rattle.std.specs.Prelude.{bit_and, bit_xor, fold, ◌==◌, Option}
use Rattle.std.specs.List.{slice_split}
use Rattle.std.specs.Option.{option_map_or}
use Rattle.way_tags.specs.Modes.{word_of}
use Rattle.osm_restrictions.specs.Keys.{is_spoken_of}
use Rattle.osm_restrictions.specs.Exceptions.{taken_modes, is_excepted_by}
use Rattle.osm_restrictions.proofs.Lefts.{left_by_parts}
use Rattle.osm_restrictions.proofs.exceptions.restricted_modes.Goals as goal

pub returns-in-Some : goal.returns-in-Some
returns-in-Some c =
    c.left_by.ensures
    ∙ ap (λ w. fold (λ left part. bit_and left (bit_xor 79 (taken_modes part))) w (slice_split (λ byte. byte == 59) c.as_bytes.result.now)) c.spoken_modes-modes.ensures
    ∙ left_by_parts (is_spoken_of c.args.tags.now) (slice_split (λ byte. byte == 59) c.as_bytes.result.now)
    ∙ ap (λ (text : List ℕ). word_of (λ mode. is_spoken_of c.args.tags.now mode && not (is_excepted_by text mode))) c.as_bytes.ensures.value
    ∙ ap (λ (o : Option (List ℕ)). word_of (λ mode. is_spoken_of c.args.tags.now mode && not (option_map_or (λ value. is_excepted_by value mode) o false))) c.in-Some.ensures
