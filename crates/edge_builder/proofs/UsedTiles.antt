-- The tiles that hold a junction, among all tiles.
use Rattle.std.proofs.Common.{◌≡◌, ℕ, zero, suc, ◌+◌, ◌<◌, ◌≤◌, refl, ◌∙◌, ap, subst, List, [], ◌∷◌, ◌++◌, map, filter, flat_map, Bool, true, false, cond, nat_eq, nat_lt, inl, inr, arith, eq-eqb, eqb-true, lt-ltb}
use Rattle.std.specs.Prelude.{All}
use Rattle.std.specs.List.{range_with_len}
use Rattle.std.proofs.lemmas.Bool.{both_ways, cases_order}
use Rattle.std.proofs.lemmas.List.Concat.{flat_map-cons}
use Rattle.road_pieces.specs.declared.rows.Junction.{Junction}
use Rattle.road_pieces.specs.declared.rows.Piece.{Piece}
use Rattle.road_pieces.proofs.Members.{IsIn, at_in, in_map, of_map}
use Rattle.road_walks.specs.Orders.{rising, not_none}
use Rattle.road_walks.proofs.Locals.{in_filter}
use Rattle.road_walks.proofs.Sorted.{Sorted, of_filter, in_rising, of_rising, numbers_connected, below_self, below_on, one_sorted, sorted_filter, rising_sorted}
use Rattle.edge_builder.specs.BaseRows.{junction_tile}
use Rattle.edge_builder.specs.BaseTiles.{base_tile, junctions_in, tile_if_used, base_tiles_of}

-- ---- lists

flat_used : {B : Type 0} (test : ℕ → Bool) (made : ℕ → B) (cs : List ℕ) → flat_map (λ c. cond (test c) (made c ∷ []) []) cs ≡ map made (filter test cs)
flat_used test made [] = refl
flat_used test made (c ∷ cs) = flat_map-cons (λ c. cond (test c) (made c ∷ []) []) c cs ∙ by (test c) (flat_used test made cs)
  where
    by : (b : Bool) → flat_map (λ c. cond (test c) (made c ∷ []) []) cs ≡ map made (filter test cs) → cond b (made c ∷ []) [] ++ flat_map (λ c. cond (test c) (made c ∷ []) []) cs ≡ map made (cond b (c ∷ filter test cs) (filter test cs))
    by true rest = ap (λ l. made c ∷ l) rest
    by false rest = rest

some_there : {E : Type 0} (es : List E) (e : E) → IsIn es e → not_none es ≡ true
some_there [] e h = absurd h
some_there (d ∷ es) e h = refl

one_there : {E : Type 0} (es : List E) → not_none es ≡ true → (e : E) × IsIn es e
one_there [] h = absurd (both_ways false refl h)
one_there (e ∷ es) h = (e, inl refl)

of_range : (a n c : ℕ) → IsIn (range_with_len a n) c → a ≤ c
of_range a zero c h = absurd h
of_range a (suc n) c (inl is) = omega (arith, is)
of_range a (suc n) c (inr h) = let r = of_range (a + 1) n c h in omega (arith, r)

in_range : (a n c : ℕ) → a ≤ c → c < a + n → IsIn (range_with_len a n) c
in_range a zero c h l = absurd (omega (arith, h, l))
in_range a (suc n) c h l =
    elim (cases_order a c) [
      | inl at ↦ inl at
      | inr other ↦ elim other [
        | inl less ↦ inr (in_range (a + 1) n c (omega (arith, less)) (omega (arith, l)))
        | inr more ↦ absurd (omega (arith, h, more))
      ]
    ]

range_sorted : (a n : ℕ) → Sorted nat_lt numbers_connected below_self below_on (range_with_len a n)
range_sorted a zero = tt
range_sorted a (suc n) = (λ g h. let r = of_range (a + 1) n g h in lt-ltb a g (omega (arith, r)), range_sorted (a + 1) n)

-- ---- tiles

abbrev is_used : List Junction → ℕ → Bool
is_used js c = not_none (junctions_in js c)

module _ (js : List Junction) (n : ℕ) (below : All (λ c. c < n) (map junction_tile js)) where
  of_used : (c : ℕ) → IsIn (filter (is_used js) (range_with_len 0 n)) c → IsIn (rising nat_lt (map junction_tile js)) c
  of_used c h =
      let (there, used) = of_filter (is_used js) (range_with_len 0 n) c h in
      let (j, its) = one_there (junctions_in js c) used in
      let (inside, tile) = of_filter (λ j. nat_eq (junction_tile j) c) js j its in
      in_rising nat_lt numbers_connected (map junction_tile js) c (subst (IsIn (map junction_tile js)) (eqb-true (junction_tile j) c tile) (in_map junction_tile js j inside))

  in_used : (c : ℕ) → IsIn (rising nat_lt (map junction_tile js)) c → IsIn (filter (is_used js) (range_with_len 0 n)) c
  in_used c h =
      let there = of_rising nat_lt numbers_connected (map junction_tile js) c h in
      let (j, (inside, tile)) = of_map junction_tile js c there in
      let (k, (low, is)) = at_in (map junction_tile js) c there in
      let number : c < n = subst (λ m. m < n) (is 0) (below k 0 low) in
      in_filter (is_used js) (range_with_len 0 n) c (in_range 0 n c (omega arith) (omega (arith, number)))
      (some_there (junctions_in js c) j (in_filter (λ i. nat_eq (junction_tile i) c) js j inside (eq-eqb (junction_tile j) c tile)))

  numbers_are : filter (is_used js) (range_with_len 0 n) ≡ rising nat_lt (map junction_tile js)
  numbers_are =
      one_sorted nat_lt numbers_connected below_self below_on (filter (is_used js) (range_with_len 0 n)) (rising nat_lt (map junction_tile js))
      (sorted_filter nat_lt numbers_connected below_self below_on (is_used js) (range_with_len 0 n) (range_sorted 0 n))
      (rising_sorted nat_lt numbers_connected below_self below_on (map junction_tile js))
      of_used in_used

-- the tiles that hold a junction, taken from all numbers, are the base tiles
pub used_tiles : (js : List Junction) (ps : List Piece) (n : ℕ) → All (λ c. c < n) (map junction_tile js) → flat_map (tile_if_used js ps) (range_with_len 0 n) ≡ base_tiles_of js ps
used_tiles js ps n below =
    flat_used (is_used js) (base_tile js ps) (range_with_len 0 n) ∙ ap (map (base_tile js ps)) (numbers_are js n below)
