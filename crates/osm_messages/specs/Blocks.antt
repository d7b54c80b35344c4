-- The PrimitiveBlock of an OSMData blob (osmformat.proto). It speaks of the format; Means.IsPrimitiveBlock says the
-- same without steps.
use Rattle.std.specs.Prelude.{ℕ, ℤ, pos, ◌==◌, if◌then◌else◌, is_some, List, [], ◌++◌, Option, Some, None, Result, Ok, Err}
use Rattle.std.specs.Int.{w64, cast_signed}
use Rattle.wire_read.specs.Fields.{Content, Varint, Fixed64, Bytes, Fixed32, WireField}
use Rattle.osm_messages.specs.declared.fault.MessageFault.{MessageFault}
use Rattle.osm_messages.specs.declared.fault.MessageFault.TheVariants as faults
use Rattle.osm_messages.specs.declared.fields.TheConstants.{BLOCK_STRINGTABLE, BLOCK_PRIMITIVEGROUP, BLOCK_GRANULARITY, BLOCK_LAT_OFFSET, BLOCK_LON_OFFSET}
use Rattle.osm_messages.specs.Walks.{◌>>=◌, message}
use Rattle.osm_messages.specs.Texts.{texts_in}
use Rattle.osm_messages.specs.Groups.{Object, group_in}

-- a block: its texts, where it has a string table; the objects of all PrimitiveGroups, in order; what one unit of its
-- coordinates is, and what is added to them, in units of 1e-9 degree
pub record Block : Type 0 where
  pub texts : Option (List (List ℕ))
  pub objects : List Object
  pub granularity : ℤ
  pub lat_offset : ℤ
  pub lon_offset : ℤ

-- before the first field
abbrev pub no_block : Block
no_block = record { texts = None; objects = []; granularity = pos 100; lat_offset = pos 0; lon_offset = pos 0 }

-- the string table of a field at this offset, which a block has once
abbrev pub with_table : Block → ℕ → ℕ → List ℕ → Result Block MessageFault
with_table block at body_at bytes =
    if is_some block.texts then Err (faults.Repeated at BLOCK_STRINGTABLE) else (texts_in body_at bytes >>= λ texts. Ok (record block { texts = Some texts }))

-- the objects of a PrimitiveGroup more
abbrev pub with_group : Block → ℕ → List ℕ → Result Block MessageFault
with_group block at bytes = group_in at bytes >>= λ objects. Ok (record block { objects = block.objects ++ objects })

-- the string table and the PrimitiveGroups
abbrev pub with_part : Block → WireField → List ℕ → Result Block MessageFault
with_part block field bytes =
    if field.number == BLOCK_STRINGTABLE then with_table block field.at field.body_at bytes
    else (if field.number == BLOCK_PRIMITIVEGROUP then with_group block field.body_at bytes
    else Ok block)

-- granularity and offsets: signed numbers of 64 bits, in place of those before
abbrev pub with_scalar : Block → ℕ → ℕ → Block
with_scalar block number n =
    if number == BLOCK_GRANULARITY then record block { granularity = cast_signed w64 n }
    else (if number == BLOCK_LAT_OFFSET then record block { lat_offset = cast_signed w64 n }
    else (if number == BLOCK_LON_OFFSET then record block { lon_offset = cast_signed w64 n }
    else block))

-- what a field holds decides which of the two it may be; a field that holds something else is skipped
abbrev pub with_field : Block → WireField → Content → Result Block MessageFault
with_field block field (Varint n) = Ok (with_scalar block field.number n)
with_field block field (Fixed64 n) = Ok block
with_field block field (Bytes bytes) = with_part block field bytes
with_field block field (Fixed32 n) = Ok block

abbrev pub block_step : Block → WireField → Result Block MessageFault
block_step block field = with_field block field field.content

-- the block whose first byte stands at this offset
unfoldable pub block_in : ℕ → List ℕ → Result Block MessageFault
block_in at bytes = message block_step no_block at bytes
