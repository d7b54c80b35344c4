-- Bytes are told as they are, and so are files that are stored.
use Rattle.std.proofs.Common.{◌≡◌, ℕ, suc, ◌<◌, ◌%◌, Bool, true, false, cond, List, [], ◌∷◌, length, map, take, drop, refl, ap, ◌∙◌, sym, arith}
use Rattle.std.specs.Prelude.{All, Option, Some, None}
use Rattle.std.specs.Option.{option_map}
use Rattle.std.specs.Str.{bytes_eq}
use Rattle.std.specs.List.{slice_index_or}
use Rattle.std.proofs.Math.Nat.{mod-eq_of_lt}
use Rattle.host_port.specs.Told.{file_at, stored}
use Rattle.host_port.specs.Bytes.{as_byte, as_bytes, as_byte_files}

-- bytes are themselves
pub bytes_as_they_are : (bytes : List ℕ) → All (λ byte. byte < 256) bytes → as_bytes bytes ≡ bytes
bytes_as_they_are [] h = refl
bytes_as_they_are (byte ∷ bytes) h =
    let first : byte % 256 ≡ byte = mod-eq_of_lt (h 0 byte (omega arith)) in
    let others : as_bytes bytes ≡ bytes = bytes_as_they_are bytes (λ k d within. h (suc k) d (omega (arith, within))) in
    ap (λ x. x ∷ as_bytes bytes) first ∙ ap (λ xs. byte ∷ xs) others

-- the files after a put, as they are told
pub stored_as_told : (path bytes : List ℕ) (files : List (List ℕ × List ℕ)) → All (λ byte. byte < 256) bytes → as_byte_files (stored path bytes files) ≡ stored path bytes (as_byte_files files)
stored_as_told path bytes [] h = ap (λ xs. (path, xs) ∷ []) (bytes_as_they_are bytes h)
stored_as_told path bytes (file ∷ files) h = by (bytes_eq path file.0) (stored_as_told path bytes files h)
  where
    by : (same : Bool) → as_byte_files (stored path bytes files) ≡ stored path bytes (as_byte_files files)
        → as_byte_files (cond same ((path, bytes) ∷ files) (file ∷ stored path bytes files)) ≡ cond same ((path, bytes) ∷ as_byte_files files) ((file.0, as_bytes file.1) ∷ stored path bytes (as_byte_files files))
    by true others = ap (λ xs. (path, xs) ∷ as_byte_files files) (bytes_as_they_are bytes h)
    by false others = ap (λ rest. (file.0, as_bytes file.1) ∷ rest) others
