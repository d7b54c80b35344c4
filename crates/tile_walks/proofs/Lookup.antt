-- The records that a search finds are those with the GraphId.
use Rattle.std.proofs.Common.{◌≡◌, ℕ, ◌<◌, ◌^◌, List, length, Option, Some, None, sym, ◌∙◌, ap, subst, arith, inl, inr}
use Rattle.std.specs.Prelude.{◌≢◌, IfSome, slice_get, slice_index, slice_index_or}
use Rattle.std.proofs.lemmas.Bool.{cases_lt}
use Rattle.std.proofs.lemmas.List.{get_or-map, length-map, get_or_default}
use Rattle.graph_id.specs.GraphId.{level_of, tile_of_id, id_of, value_of}
use Rattle.tile_bytes.specs.declared.tile.Tile.{Tile}
use Rattle.tile_walks.specs.Keys.{key_of, keys_of, Rise}
use Rattle.tile_walks.specs.Records.{IsRecordOf}
use Rattle.tile_walks.proofs.IdLaws.{same_level, same_tile, whole, key_in, place_in}

-- the key at a place is that of the tile there
pub key_at : (tiles : List Tile) (keys : List ℕ) (k : ℕ) (t : Tile) → keys_of tiles ≡ keys → k < length tiles → slice_index_or tiles k t ≡ t → slice_index keys k ≡ key_of t.id
key_at tiles keys k t same inside is =
    ap (λ ks. slice_index ks k) (sym same) ∙ (get_or-map (λ t. key_of t.id) tiles k t 0 inside ∙ ap (λ t. key_of t.id) is)

-- places with one key are one place
pub one_place : (keys : List ℕ) → Rise keys → (i j : ℕ) → i < length keys → j < length keys → slice_index keys i ≡ slice_index keys j → i ≡ j
one_place keys rises i j h k same = elim (cases_lt i j) [
  | inl below ↦ let up = rises i j below k in absurd (omega (arith, up, same))
  | inr over ↦ elim (cases_lt j i) [
    | inl above ↦ let up = rises j i above h in absurd (omega (arith, up, same))
    | inr under ↦ omega (arith, over, under)
  ]
]

pub length_keys : (tiles : List Tile) (keys : List ℕ) → keys_of tiles ≡ keys → length keys ≡ length tiles
length_keys tiles keys same = ap length (sym same) ∙ length-map tiles (λ t. key_of t.id)

module _ {R : Type 0} (records : Tile → List R) (tiles : List Tile) (keys : List ℕ) (id : ℕ) (same : keys_of tiles ≡ keys) (small : id < 2 ^ 46) where
  pub record_found : (i : ℕ) (t : Tile) (r : R) → i < length keys → slice_index keys i ≡ key_of id → slice_index_or tiles i t ≡ t → slice_get (records t) (id_of id) ≡ Some r → IsRecordOf records tiles id r
  record_found i t r inside key is at =
      let n = length_keys tiles keys same in
      let there : i < length tiles = omega (arith, inside, n) in
      let e : key_of t.id ≡ key_of id = sym (key_at tiles keys i t same there is) ∙ key in
      record {
        tile = t;
        there = (i, there, is);
        place = id_of id;
        at = at;
        named = ap (λ l. value_of l (tile_of_id t.id) (id_of id)) (same_level t.id id e) ∙ (ap (λ n. value_of (level_of id) n (id_of id)) (same_tile t.id id e) ∙ whole id small);
      }

  -- a record with the id has its tile at the place of the key
  pub record_only : Rise keys → (i : ℕ) (t : Tile) (r : R) → i < length keys → slice_index keys i ≡ key_of id → slice_index_or tiles i t ≡ t → IsRecordOf records tiles id r → slice_get (records t) (id_of id) ≡ Some r
  record_only rises i t r inside key is one =
      let n = length_keys tiles keys same in
      let (k, there, at) = one.there in
      let e : slice_index keys k ≡ key_of one.tile.id = key_at tiles keys k one.tile same there at in
      let f : key_of id ≡ key_of one.tile.id = key_in one.tile.id one.place id one.named in
      let j : i ≡ k = one_place keys rises i k inside (omega (arith, there, n)) (key ∙ (f ∙ sym e)) in
      let own : t ≡ one.tile = sym is ∙ (get_or_default tiles i t one.tile (omega (arith, inside, n)) ∙ (ap (λ i. slice_index_or tiles i one.tile) j ∙ at)) in
      ap (λ t. slice_get (records t) (id_of id)) own ∙ (ap (slice_get (records one.tile)) (place_in one.tile.id one.place id one.named small) ∙ one.at)

  pub record_none : ((k : ℕ) → k < length keys → slice_index keys k ≢ key_of id) → (r : R) → IsRecordOf records tiles id r → ⊥
  record_none none r one =
      let n = length_keys tiles keys same in
      let (k, there, at) = one.there in
      none k (omega (arith, there, n)) (key_at tiles keys k one.tile same there at ∙ sym (key_in one.tile.id one.place id one.named))

  -- what a look-up answers
  pub found_at : (i : ℕ) (t : Tile) (p : ℕ) (o : Option R) → i < length keys → slice_index keys i ≡ key_of id → t ≡ slice_index_or tiles i t → p ≡ id_of id → o ≡ slice_get (records t) p → (now : List Tile) → tiles ≡ now → IfSome o (λ r. IsRecordOf records now id r)
  found_at i t p None inside key is place at now view = tt
  found_at i t p (Some r) inside key is place at now view =
      subst (λ ts. IsRecordOf records ts id r) view (record_found i t r inside key (sym is) (ap (slice_get (records t)) (sym place) ∙ sym at))

  pub only_at : Rise keys → (i : ℕ) (t : Tile) (p : ℕ) (o : Option R) → i < length keys → slice_index keys i ≡ key_of id → t ≡ slice_index_or tiles i t → p ≡ id_of id → o ≡ slice_get (records t) p → (now : List Tile) → tiles ≡ now → (r : R) → IsRecordOf records now id r → o ≡ Some r
  only_at rises i t p o inside key is place at now view r one =
      at ∙ (ap (slice_get (records t)) place ∙ record_only rises i t r inside key (sym is) (subst (λ ts. IsRecordOf records ts id r) (sym view) one))

  pub none_at : ((k : ℕ) → k < length keys → slice_index keys k ≢ key_of id) → (now : List Tile) → tiles ≡ now → (r : R) → IsRecordOf records now id r → ⊥
  none_at none now view r one = record_none none r (subst (λ ts. IsRecordOf records ts id r) (sym view) one)
