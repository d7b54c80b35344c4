-- What a walk over the fields of a message finds.
use Rattle.std.specs.Prelude.{◌≡◌, ℕ, ◌&&◌, nat_le, if◌then◌else◌, List, Option, Some, None, Ok}
use Rattle.std.specs.Option.{option_map}
use Rattle.wire_read.specs.Fields.{WireField, fields_of}
use Rattle.pbf_blobs.specs.Messages.{bytes_in, varints_in, last_of, first_between}

-- the number of a field that holds a compressed payload
abbrev pub compressed_number : WireField → Option ℕ
compressed_number field = if nat_le 3 field.number && nat_le field.number 7 then Some field.number else None

-- These bytes, which begin at the place start, are a message with this last type and this last datasize.
pub record FindsHeader (start : ℕ) (header : List ℕ) (kind : Option (ℕ × List ℕ)) (size : Option ℕ) : Type 0 where
  pub fields : List WireField
  pub reads : fields_of start header ≡ Ok fields
  pub kind_is : kind ≡ last_of (bytes_in 1 fields)
  pub size_is : size ≡ last_of (varints_in 3 fields)

-- These bytes, which begin at the place start, are a message with this first compressed payload and this last
-- raw one.
pub record FindsPayload (start : ℕ) (blob : List ℕ) (compressed : Option ℕ) (raw : Option (ℕ × List ℕ)) : Type 0 where
  pub fields : List WireField
  pub reads : fields_of start blob ≡ Ok fields
  pub compressed_is : compressed ≡ option_map (λ field. field.number) (first_between 3 7 fields)
  pub raw_is : raw ≡ last_of (bytes_in 1 fields)
