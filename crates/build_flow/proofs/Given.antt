-- The first limit that a list of tiles passes.
use Rattle.std.proofs.Common.{◌≡◌, ℕ, zero, suc, ◌+◌, ◌<◌, refl, sym, ap, subst, ◌∙◌, List, [], ◌∷◌, ◌++◌, length, map, get_or, take, arith}
use Rattle.std.specs.Prelude.{Option, Some, None}
use Rattle.std.proofs.lemmas.List.{length-map, map-append, take_all, take_more, get_or-map}
use Rattle.std.specs.Option.{option_or}
use Rattle.build_flow.specs.declared.faults.FlowFault.{FlowFault}
use Rattle.build_flow.specs.declared.faults.FlowFault.TheVariants.{Limit, OutOfMemory}
use Rattle.build_flow.specs.declared.faults.LimitFault.{LimitFault}
use Rattle.road_pieces.specs.declared.rows.Piece.{Piece}
use Rattle.tile_bytes.specs.declared.tile.Tile.{Tile}
use Rattle.work_tile.specs.WorkRows.{WorkRows}
use Rattle.tile_numbers.specs.LookUps.{no_rows}
use Rattle.tile_finish.specs.FinishedTiles.{finished_tile}
use Rattle.build_flow.specs.FolderFiles.{first_given, too_long_section, finished_tiles, tile_file, IsFault}

-- none of the first passes it, and the next one does
given_at : {E F : Type 0} (give : E → Option F) (es : List E) (i : ℕ) (d : E) (f : F) → i < length es → first_given give (take i es) ≡ None → give (get_or es i d) ≡ Some f → first_given give es ≡ Some f
given_at {F = F} give [] i d f h none some = absurd (omega (arith, h))
given_at {F = F} give (e ∷ es) zero d f h none some = ap (λ o. option_or o (first_given give es)) some
given_at {F = F} give (e ∷ es) (suc i) d f h none some = by (give e) none (given_at give es i d f (omega (arith, h)))
  where
    by : (o : Option F) → option_or o (first_given give (take i es)) ≡ None → (first_given give (take i es) ≡ None → give (get_or es i d) ≡ Some f → first_given give es ≡ Some f) → option_or o (first_given give es) ≡ Some f
    by None none rest = rest none some
    by (Some g) none rest = absurd cc

pub fault_at : {E : Type 0} (give : E → Option LimitFault) (es : List E) (i : ℕ) (d : E) (fault : FlowFault) → i < length es → first_given give (take i es) ≡ None → IsFault (give (get_or es i d)) fault → IsFault (first_given give es) fault
fault_at give es i d (Limit limit) h none is = given_at give es i d limit h none is
fault_at give es i d OutOfMemory h none is = tt

-- one more passes none
pub none_more : {E F : Type 0} (give : E → Option F) (es : List E) (e : E) → first_given give es ≡ None → give e ≡ None → first_given give (es ++ e ∷ []) ≡ None
none_more {F = F} give [] e none one = ap (λ o. option_or o None) one
none_more {F = F} give (f ∷ es) e none one = by (give f) none (none_more give es e)
  where
    by : (o : Option F) → option_or o (first_given give es) ≡ None → (first_given give es ≡ None → give e ≡ None → first_given give (es ++ e ∷ []) ≡ None) → option_or o (first_given give (es ++ e ∷ [])) ≡ None
    by None none rest = rest none one
    by (Some g) none rest = absurd cc

-- ---- files so far

-- these files are those of the first so many tiles, none of which has a section that is too long
pub record AreFilesOf (modes : ℕ) (pieces : List Piece) (tiles : List WorkRows) (count : ℕ) (files : List (List ℕ × List ℕ)) : Type 0 where
  pub files_are : files ≡ map tile_file (take count (finished_tiles modes pieces tiles))
  pub short : first_given too_long_section (take count (finished_tiles modes pieces tiles)) ≡ None

module _ (modes : ℕ) (pieces : List Piece) (tiles : List WorkRows) where
  abbrev all : List Tile
  all = finished_tiles modes pieces tiles

  many : length all ≡ length tiles
  many = length-map tiles (finished_tile modes pieces tiles)

  here : (i : ℕ) → i < length tiles → get_or all i (finished_tile modes pieces tiles no_rows) ≡ finished_tile modes pieces tiles (get_or tiles i no_rows)
  here i h = get_or-map (finished_tile modes pieces tiles) tiles i no_rows (finished_tile modes pieces tiles no_rows) h

  grows : (i : ℕ) → i < length tiles → take (i + 1) all ≡ take i all ++ finished_tile modes pieces tiles (get_or tiles i no_rows) ∷ []
  grows i h = take_more all i (finished_tile modes pieces tiles no_rows) (omega (arith, h, many)) ∙ ap (λ t. take i all ++ t ∷ []) (here i h)

  pub files_more : (i : ℕ) (files : List (List ℕ × List ℕ)) → i < length tiles → AreFilesOf modes pieces tiles i files → too_long_section (finished_tile modes pieces tiles (get_or tiles i no_rows)) ≡ None
      → AreFilesOf modes pieces tiles (i + 1) (files ++ tile_file (finished_tile modes pieces tiles (get_or tiles i no_rows)) ∷ [])
  files_more i files h so_far short = record {
    files_are = ap (λ fs. fs ++ tile_file (finished_tile modes pieces tiles (get_or tiles i no_rows)) ∷ []) so_far.files_are
        ∙ sym (map-append tile_file (take i all) (finished_tile modes pieces tiles (get_or tiles i no_rows) ∷ [])) ∙ ap (map tile_file) (sym (grows i h));
    short = ap (first_given too_long_section) (grows i h) ∙ none_more too_long_section (take i all) (finished_tile modes pieces tiles (get_or tiles i no_rows)) so_far.short short;
  }

  pub files_fail : (i : ℕ) (files : List (List ℕ × List ℕ)) (fault : FlowFault) → i < length tiles → AreFilesOf modes pieces tiles i files → IsFault (too_long_section (finished_tile modes pieces tiles (get_or tiles i no_rows))) fault
      → IsFault (first_given too_long_section all) fault
  files_fail i files fault h so_far is =
      fault_at too_long_section all i (finished_tile modes pieces tiles no_rows) fault (omega (arith, h, many)) so_far.short (subst (λ t. IsFault (too_long_section t) fault) (sym (here i h)) is)

  pub files_all : (files : List (List ℕ × List ℕ)) → AreFilesOf modes pieces tiles (length tiles) files → (files ≡ map tile_file all) × (first_given too_long_section all ≡ None)
  files_all files done =
      let whole : take (length tiles) all ≡ all = take_all (length tiles) all (omega (arith, many)) in
      (done.files_are ∙ ap (map tile_file) whole, ap (first_given too_long_section) (sym whole) ∙ done.short)
