-- What the parts of a tile are, put together from what is called.
use Rattle.std.proofs.Common.{◌≡◌, ◌∙◌, ℕ, ◌+◌, ◌<◌, ◌^◌, sym, ap, subst, List, length, get_or, map, inl, inr, arith}
use Rattle.std.specs.Prelude.{All, AllPairs}
use Rattle.std.proofs.lemmas.Bool.{cases_lt}
use Rattle.std.proofs.lemmas.List.{get_or_default}
use Rattle.std.proofs.lemmas.List.Elements.{All-map}
use Rattle.edge_info.specs.declared.infos.Info.{Info}
use Rattle.edge_info.specs.Entries.{infos_bytes, starts_of}
use Rattle.road_pieces.specs.declared.rows.Piece.{Piece}
use Rattle.work_tile.specs.declared.edge_rows.WorkEdge.{WorkEdge}
use Rattle.work_tile.specs.WorkRows.{WorkRows}
use Rattle.tile_numbers.specs.Records.{edges_of_rows}
use Rattle.tile_finish.specs.FinishedTiles.{piece_places, pieces_of_rows, entries_of_rows}
use Rattle.tile_finish.specs.Finishing.{AreStarts}
use Rattle.tile_finish.proofs.PlaceLemmas.{rising_pairs, rising_keeps}
use Rattle.tile_finish.proofs.SizeLemmas.{starts_below}
use Rattle.tile_finish.proofs.Passes.{starts_as_places}

-- one element more of which a fact is known
pub known_more : {A : Type 0} (P : A → Type 0) (xs : List A) (i : ℕ) (x : A) → ((k : ℕ) (d : A) → k < i → P (get_or xs k d)) → i < length xs → x ≡ get_or xs i x → P x → (k : ℕ) (d : A) → k < i + 1 → P (get_or xs k d)
known_more P xs i x before inside here is k d h = elim (cases_lt k i) [
  | inl low ↦ before k d low
  | inr high ↦ (
      let same : i ≡ k = omega (arith, h, high) in
      subst P (here ∙ get_or_default xs i x d inside ∙ ap (λ j. get_or xs j d) same) is
      )
]

-- the indexes of a tile's pieces are those of pieces
pub places_inside : (count : ℕ) (rows : WorkRows) (places : List ℕ) → All (λ (e : WorkEdge). e.place < count) (edges_of_rows rows) → places ≡ piece_places rows → All (λ place. place < count) places
places_inside count rows places all is =
    let place = λ (e : WorkEdge). e.place in
    subst (All (λ n. n < count)) (sym is) (rising_keeps (λ n. n < count) (map place (edges_of_rows rows)) (All-map (λ n. n < count) place (edges_of_rows rows) all))

-- where the entries of a tile's pieces start fits 32 bits where all their bytes do
pub starts_are : (pieces : List Piece) (rows : WorkRows) (places starts : List ℕ) (infos : List Info) → places ≡ piece_places rows → starts ≡ starts_of infos → infos ≡ entries_of_rows pieces rows
    → length (pieces_of_rows pieces rows) ≡ length (piece_places rows) → length (infos_bytes infos) < 2 ^ 32 → AreStarts places starts
starts_are pieces rows places starts infos is from entries same short = record {
  rise = subst (AllPairs (λ a b. a < b)) (sym is) (rising_pairs (map (λ (e : WorkEdge). e.place) (edges_of_rows rows)));
  same = ap length from ∙ ap (λ es. length (starts_of es)) entries ∙ starts_as_places pieces rows same ∙ sym (ap length is);
  small = subst (All (λ s. s < 2 ^ 32)) (sym from) (starts_below infos (2 ^ 32) short);
}
