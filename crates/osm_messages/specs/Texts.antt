-- The string table of a block (osmformat.proto, StringTable): the texts that its objects name by their place in it.
-- It speaks of the format; Means.IsStringTable says the same without steps.
use Rattle.std.specs.Prelude.{ℕ, ◌==◌, if◌then◌else◌, List, [], ◌∷◌, ◌++◌, Result, Ok}
use Rattle.wire_read.specs.Fields.{WireField}
use Rattle.osm_messages.specs.declared.fault.MessageFault.{MessageFault}
use Rattle.osm_messages.specs.declared.fields.TheConstants.{STRINGTABLE_S}
use Rattle.osm_messages.specs.Walks.{message, with_bytes}

-- a text is a field `s`
abbrev pub text_step : List (List ℕ) → WireField → Result (List (List ℕ)) MessageFault
text_step texts field =
    with_bytes texts field.content (λ bytes. Ok (if field.number == STRINGTABLE_S then texts ++ bytes ∷ [] else texts))

-- the texts of a table whose first byte stands at this place
unfoldable pub texts_in : ℕ → List ℕ → Result (List (List ℕ)) MessageFault
texts_in at bytes = message text_step [] at bytes
