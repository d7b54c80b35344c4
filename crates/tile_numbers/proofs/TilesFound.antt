-- A tile found by its number among tiles that rise.
use Rattle.std.proofs.Common.{◌≡◌, ◌∙◌, ℕ, ◌^◌, ◌<◌, sym, ap, List, length, get_or, true, false, ◌&&◌, eqb, eq-eqb, arith}
use Rattle.std.specs.Prelude.{◌≢◌, slice_index}
use Rattle.std.specs.List.{position_or_len}
use Rattle.std.proofs.lemmas.Bool.{false_from_ne_true, and_parts, eqb-true}
use Rattle.std.proofs.lemmas.List.{get_or-map, get_or_default, get_or_past, length-map}
use Rattle.std.proofs.lemmas.List.Sums.{position_or_len_is}
use Rattle.work_tile.specs.WorkRows.{WorkRows}
use Rattle.work_tile.specs.Places.{tile_number, place_numbers}
use Rattle.tile_numbers.specs.LookUps.{no_rows, has_tile_number, work_rows_at}
use Rattle.tile_numbers.specs.Progress.{IsFoundTile}
use Rattle.tile_numbers.specs.Limits.{TilesCanBeNumbered}

abbrev number : WorkRows → ℕ
number t = tile_number t.level t.tile

number_at : (tiles : List WorkRows) (k : ℕ) (d : WorkRows) → k < length tiles → slice_index (place_numbers tiles) k ≡ number (get_or tiles k d)
number_at tiles k d h = get_or-map number tiles k d 0 h

not_numbered : (level tile : ℕ) (t : WorkRows) → (tile_number level tile ≡ number t → ⊥) → has_tile_number level tile t ≡ false
not_numbered level tile t h =
    false_from_ne_true (eqb level t.level && eqb tile t.tile) (λ e.
    let both = and_parts (eqb level t.level) (eqb tile t.tile) e in
    let l : level ≡ t.level = eqb-true level t.level both.0 in
    let m : tile ≡ t.tile = eqb-true tile t.tile both.1 in
    h (omega (arith, l, m)))

is_numbered : (level tile : ℕ) (t : WorkRows) → level ≡ t.level → tile ≡ t.tile → has_tile_number level tile t ≡ true
is_numbered level tile t l m = ap (λ b. b && eqb tile t.tile) (eq-eqb level t.level l) ∙ eq-eqb tile t.tile m

-- the tile that a number names
pub tile_found : (tiles : List WorkRows) (numbers : List ℕ) (level tile i : ℕ) (t : WorkRows) → TilesCanBeNumbered tiles → numbers ≡ place_numbers tiles
    → tile < 2 ^ 32 → i < length numbers → slice_index numbers i ≡ tile_number level tile → t ≡ get_or tiles i t → t ≡ work_rows_at tiles level tile
tile_found tiles numbers level tile i t can same low inside is here =
    let within : i < length tiles = omega (arith, inside, ap length same, length-map tiles number) in
    let at : number t ≡ tile_number level tile =
    ap number here ∙ sym (number_at tiles i t within) ∙ ap (λ ns. slice_index ns i) (sym same) ∙ is in
    let small = (can.each i t within).tile in
    let own : t.tile < 4_194_304 = omega (arith, small, ap (λ (r : WorkRows). r.tile) here) in
    let level_is : level ≡ t.level = omega (arith, at, own, low) in
    let tile_is : tile ≡ t.tile = omega (arith, at, own, low) in
    let found : position_or_len (has_tile_number level tile) tiles ≡ i =
    position_or_len_is (has_tile_number level tile) tiles i t (omega (arith, within))
    (λ k l. not_numbered level tile (get_or tiles k t) (λ e.
    let below = can.rise k i l (omega (arith, within, length-map tiles number)) in
    omega (arith, below, e, number_at tiles k t (omega (arith, l, within)), ap (λ ns. slice_index ns i) (sym same) ∙ is)))
    (λ l. ap (has_tile_number level tile) (sym here) ∙ is_numbered level tile t level_is tile_is) in
    here ∙ get_or_default tiles i t no_rows within ∙ ap (λ k. get_or tiles k no_rows) (sym found)

-- where no number is that of the tile, it isn't there
pub no_tile : (tiles : List WorkRows) (numbers : List ℕ) (level tile : ℕ) → numbers ≡ place_numbers tiles
    → ((k : ℕ) → k < length numbers → slice_index numbers k ≢ tile_number level tile) → work_rows_at tiles level tile ≡ no_rows
no_tile tiles numbers level tile same none =
    let past : position_or_len (has_tile_number level tile) tiles ≡ length tiles =
    position_or_len_is (has_tile_number level tile) tiles (length tiles) no_rows (omega arith)
    (λ k l. not_numbered level tile (get_or tiles k no_rows) (λ e.
    none k (omega (arith, l, ap length same, length-map tiles number)) (ap (λ ns. slice_index ns k) same ∙ number_at tiles k no_rows l ∙ sym e)))
    (λ l. absurd (omega (arith, l))) in
    get_or_past tiles (position_or_len (has_tile_number level tile) tiles) no_rows (omega (arith, past))

-- a tile at this index that has the level and the number
pub tile_at : (tiles : List WorkRows) (level tile i : ℕ) (t : WorkRows) → TilesCanBeNumbered tiles → i < length tiles → t ≡ get_or tiles i t → t.level ≡ level → t.tile ≡ tile → IsFoundTile tiles level tile i
tile_at tiles level tile i t can inside here l m =
    let small = (can.each i t inside).tile in
    let low : tile < 2 ^ 32 = omega (arith, small, ap (λ (r : WorkRows). r.tile) here, m) in
    let many : i < length (place_numbers tiles) = omega (arith, inside, length-map tiles number) in
    let at : slice_index (place_numbers tiles) i ≡ tile_number level tile = number_at tiles i t inside ∙ ap number (sym here) ∙ (λ j. tile_number (l j) (m j)) in
    let found = tile_found tiles (place_numbers tiles) level tile i t can (λ j. place_numbers tiles) low many at here in
    record { inside = inside; is = get_or_default tiles i no_rows t inside ∙ sym here ∙ found }

-- .. or whose number is found
pub numbered_at : (tiles : List WorkRows) (numbers : List ℕ) (level tile i : ℕ) → TilesCanBeNumbered tiles → numbers ≡ place_numbers tiles → tile < 2 ^ 32 → i < length numbers → slice_index numbers i ≡ tile_number level tile → IsFoundTile tiles level tile i
numbered_at tiles numbers level tile i can same low inside is =
    let within : i < length tiles = omega (arith, inside, ap length same, length-map tiles number) in
    record { inside = within; is = tile_found tiles numbers level tile i (get_or tiles i no_rows) can same low inside is (get_or_default tiles i no_rows (get_or tiles i no_rows) within) }
