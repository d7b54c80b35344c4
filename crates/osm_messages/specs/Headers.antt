-- The HeaderBlock of an OSMHeader blob (osmformat.proto): the features that a reader has to know. It
-- speaks of the format; Means.IsHeaderBlock says the same without steps.
use Rattle.std.specs.Prelude.{ℕ, ◌==◌, if◌then◌else◌, List, [], ◌∷◌, ◌++◌, Result, Ok}
use Rattle.wire_read.specs.Fields.{WireField}
use Rattle.osm_messages.specs.declared.fault.MessageFault.{MessageFault}
use Rattle.osm_messages.specs.declared.fields.TheConstants.{HEADER_REQUIRED_FEATURES}
use Rattle.osm_messages.specs.Walks.{message, with_bytes}

-- a required feature comes with the offset of its field's first byte
abbrev pub feature_step : List (ℕ × List ℕ) → WireField → Result (List (ℕ × List ℕ)) MessageFault
feature_step features field =
    with_bytes features field.content (λ bytes. Ok (if field.number == HEADER_REQUIRED_FEATURES then features ++ (field.at, bytes) ∷ [] else features))

-- the required features of a header whose first byte stands at this place
unfoldable pub features_in : ℕ → List ℕ → Result (List (ℕ × List ℕ)) MessageFault
features_in at bytes = message feature_step [] at bytes
