-- An entry starts where the sizes of those before it sum up to.
use Rattle.std.proofs.Common.{◌≡◌, ℕ, zero, suc, ◌+◌, ◌*◌, ◌<◌, List, [], ◌∷◌, ◌++◌, length, take, refl, ap, ◌∙◌, arith, slice_get, Some}
use Rattle.std.specs.List.{flat_map, sum_by}
use Rattle.std.specs.Int.{w32, w64, cast_unsigned}
use Rattle.std.proofs.lemmas.List.{length-append}
use Rattle.std.proofs.lemmas.List.Concat.{flat_map-cons}
use Rattle.std.proofs.lemmas.List.Sums.{sum_by-cons}
use Rattle.fixed_geo.specs.declared.points.Point.{Point}
use Rattle.section_grammar.specs.WordBytes.{word_bytes, half_bytes}
use Rattle.section_grammar.proofs.WordLaws.{word_length, half_length, halves_bytes-length}
use Rattle.edge_info.specs.declared.infos.Info.{Info}
use Rattle.edge_info.specs.Entries.{key_bytes, point_bytes, info_bytes, starts_from, starts_of}
use Rattle.tile_infos.specs.TileEntries.{size_of_entry}

point_length : (p : Point) → length (point_bytes p) ≡ 8
unfolding point_bytes
point_length p = omega (arith, length-append (half_bytes (cast_unsigned w32 p.lat)) (half_bytes (cast_unsigned w32 p.lon)), half_length (cast_unsigned w32 p.lat), half_length (cast_unsigned w32 p.lon))

points_length : (ps : List Point) → length (flat_map point_bytes ps) ≡ 8 * length ps
points_length [] = refl
points_length (p ∷ ps) = ap length (flat_map-cons point_bytes p ps) ∙ omega (arith, length-append (point_bytes p) (flat_map point_bytes ps), point_length p, points_length ps)

entry_length : (info : Info) → length (info_bytes info) ≡ size_of_entry info
unfolding info_bytes key_bytes
entry_length info =
    let way = word_bytes (cast_unsigned w64 info.key.way) in
    let run = half_bytes info.key.run in
    let piece = half_bytes info.key.piece in
    let points = flat_map point_bytes info.shape in
    let names = flat_map half_bytes info.texts in
    let np = half_bytes (length info.shape) in
    let nn = half_bytes (length info.texts) in
    omega (
      arith,
      length-append (way ++ (run ++ piece)) ((np ++ points) ++ (nn ++ names)),
      length-append way (run ++ piece),
      length-append run piece,
      length-append (np ++ points) (nn ++ names),
      length-append np points,
      length-append nn names,
      word_length (cast_unsigned w64 info.key.way),
      half_length info.key.run,
      half_length info.key.piece,
      half_length (length info.shape),
      half_length (length info.texts),
      points_length info.shape,
      halves_bytes-length info.texts,
    )

start_from : (at : ℕ) (infos : List Info) (i : ℕ) → i < length infos → slice_get (starts_from at infos) i ≡ Some (at + sum_by size_of_entry (take i infos))
start_from at [] i lt = absurd (omega (arith, lt))
start_from at (x ∷ xs) zero lt = let k : at ≡ at + 0 = omega arith in ap Some k
start_from at (x ∷ xs) (suc i) lt =
    let n : at + length (info_bytes x) + sum_by size_of_entry (take i xs) ≡ at + sum_by size_of_entry (x ∷ take i xs) = omega (arith, entry_length x, sum_by-cons size_of_entry x (take i xs)) in
    start_from (at + length (info_bytes x)) xs i (omega (arith, lt)) ∙ ap Some n

pub start_at : (infos : List Info) (i : ℕ) → i < length infos → slice_get (starts_of infos) i ≡ Some (sum_by size_of_entry (take i infos))
start_at infos i lt = let k : 0 + sum_by size_of_entry (take i infos) ≡ sum_by size_of_entry (take i infos) = omega arith in start_from 0 infos i lt ∙ ap Some k

starts_long : (at : ℕ) (infos : List Info) → length (starts_from at infos) ≡ length infos
starts_long at [] = refl
starts_long at (x ∷ xs) = ap suc (starts_long (at + length (info_bytes x)) xs)

pub starts_length : (infos : List Info) → length (starts_of infos) ≡ length infos
starts_length infos = starts_long 0 infos
