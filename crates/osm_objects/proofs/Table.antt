-- The string table while its texts are used.
use Rattle.std.proofs.Common.{◌≡◌, ℕ, ◌<◌, List, length, map, get_or, set, Ok, sym, ap, ◌∙◌}
use Rattle.std.proofs.Math.Seq.{map-set_same}
use Rattle.std.specs.Option.{option_map}
use Rattle.std.proofs.lemmas.Option.{slice_get-map, slice_get-get_or}
use Rattle.osm_objects.specs.declared.entry.Entry.{Entry}
use Rattle.osm_objects.specs.Tags.{found, bytes_at}

-- the bytes of each entry
abbrev pub bytes_in : List Entry → List (List ℕ)
bytes_in entries = map (λ (entry : Entry). entry.bytes.now) entries

pub table_same : (entries : List Entry) (i : ℕ) (old new : Entry) → old ≡ get_or entries i old → new.bytes.now ≡ old.bytes.now → bytes_in (set entries i new) ≡ bytes_in entries
table_same entries i old new is same =
    map-set_same (λ (entry : Entry). entry.bytes.now) entries i new old (same ∙ ap (λ (entry : Entry). entry.bytes.now) is)

pub bytes_at-is : (entries : List Entry) (at i : ℕ) (old : Entry) → i < length entries → old ≡ get_or entries i old → bytes_at (bytes_in entries) at i ≡ Ok old.bytes.now
bytes_at-is entries at i old h is =
    ap (found at i) (slice_get-map (λ (entry : Entry). entry.bytes.now) entries i)
    ∙ ap (λ o. found at i (option_map (λ (entry : Entry). entry.bytes.now) o)) (slice_get-get_or entries i old h)
    ∙ ap (λ (e : Entry). Ok e.bytes.now) (sym is)
