-- The codes start at the junctions, and few at each.
use Rattle.std.proofs.Common.{◌≡◌, ℕ, ◌+◌, ◌<◌, ◌≤◌, refl, sym, ◌∙◌, ap, subst, List, [], ◌∷◌, length, get_or, find, cond, Bool, true, false, nat_eq, nat_lt, None, Some, inl, inr, arith}
use Rattle.std.specs.Prelude.{All, option_map, ◌⊎◌}
use Rattle.std.specs.List.{count_by}
use Rattle.std.proofs.lemmas.Bool.{cases_lt, cases_eq, both_ways, lt-ltb, eq-eqb, ne_eqb, cond-true, cond-false}
use Rattle.std.proofs.lemmas.List.Elements.{All-head, All-tail}
use Rattle.std.proofs.lemmas.List.Sums.{sum_by-cons}
use Rattle.osm_model.specs.declared.extract.Extract.{Extract}
use Rattle.road_pieces.specs.declared.rows.Junction.{Junction}
use Rattle.road_pieces.specs.Rows.{junction_rows, piece_rows, stops}
use Rattle.road_pieces.proofs.Members.{IsIn, in_at, of_map}
use Rattle.edge_builder.specs.BaseRows.{directed_rows, row_start, base_rows, too_many, crowded, junction_place}
use Rattle.edge_builder.proofs.JunctionLemmas.{no_junction}
use Rattle.edge_builder.proofs.RoadLemmas.{rise, joined}
use Rattle.edge_builder.proofs.RowJunctions.{start_inside}
use Rattle.edge_builder.proofs.RowLemmas.{edges_count}
use Rattle.restr_laws.specs.CodePlaces.{code_starts, StartsAtCodes}

stops_counted : (n k : ℕ) (xs : List ℕ) → count_by (nat_eq n) xs ≡ length (stops (λ m. nat_eq m n) k xs)
stops_counted n k [] = refl
stops_counted n k (m ∷ xs) =
    let rest = stops_counted n (k + 1) xs in
    elim (cases_eq n m) [
      | inl same ↦ omega (
        arith,
        rest,
        sum_by-cons (λ y. cond (nat_eq n y) 1 0) m xs,
        cond-true {A = ℕ} (nat_eq n m) 1 0 (eq-eqb n m same),
        ap length (cond-true (nat_eq m n) (k ∷ stops (λ y. nat_eq y n) (k + 1) xs) (stops (λ y. nat_eq y n) (k + 1) xs) (eq-eqb m n (sym same))),
      )
      | inr differs ↦ omega (
        arith,
        rest,
        sum_by-cons (λ y. cond (nat_eq n y) 1 0) m xs,
        cond-false {A = ℕ} (nat_eq n m) 1 0 (ne_eqb n m differs),
        ap length (cond-false (nat_eq m n) (k ∷ stops (λ y. nat_eq y n) (k + 1) xs) (stops (λ y. nat_eq y n) (k + 1) xs) (ne_eqb m n (λ e. differs (sym e)))),
      )
    ]

none_counted : (n bound : ℕ) (xs : List ℕ) → All (λ m. m < bound) xs → bound ≤ n → count_by (nat_eq n) xs ≡ 0
none_counted n bound [] all past = refl
none_counted n bound (m ∷ xs) all past =
    let low : m < bound = All-head (λ k. k < bound) m xs all in
    let rest = none_counted n bound xs (All-tail (λ k. k < bound) m xs all) past in
    omega (arith, rest, sum_by-cons (λ y. cond (nat_eq n y) 1 0) m xs, cond-false {A = ℕ} (nat_eq n m) 1 0 (ne_eqb n m (λ e. omega (arith, e, low, past))))

-- where none is found, none passes
none_passes : {A B : Type 0} (f : A → B) (test : A → Bool) (xs : List A) → option_map f (find test xs) ≡ None → (a : A) → IsIn xs a → test a ≡ false
none_passes f test [] h a there = absurd there
none_passes f test (y ∷ ys) h a there = by (test y) refl h there (none_passes f test ys)
  where
    by : (b : Bool) → test y ≡ b → option_map f (cond b (Some y) (find test ys)) ≡ None → (y ≡ a) ⊎ IsIn ys a → (option_map f (find test ys) ≡ None → (c : _) → IsIn ys c → test c ≡ false) → test a ≡ false
    by true e k (inl is) rest = absurd (cc k)
    by true e k (inr later) rest = absurd (cc k)
    by false e k (inl is) rest = ap test (sym is) ∙ e
    by false e k (inr later) rest = rest k a later

module _ (x : Extract) where
  starts_inside : All (λ n. n < length (junction_rows x)) (code_starts x)
  starts_inside k d l =
      let (e, (there, is)) = of_map (λ r. junction_place (junction_rows x) (row_start r)) (directed_rows (piece_rows x)) (get_or (code_starts x) k d) (in_at (code_starts x) k d (get_or (code_starts x) k d) l refl) in
      subst (λ n. n < length (junction_rows x)) is (start_inside (junction_rows x) (piece_rows x) e (joined x) there)

  few_starts : crowded (junction_rows x) (piece_rows x) ≡ None → (n : ℕ) → count_by (nat_eq n) (code_starts x) ≤ 255
  few_starts accepted n =
      elim (cases_lt n (length (junction_rows x))) [
        | inr past ↦ let none = none_counted n (length (junction_rows x)) (code_starts x) starts_inside past in omega (arith, none)
        | inl low ↦
            let j : Junction = get_or (junction_rows x) n no_junction in
            let count : count_by (nat_eq n) (code_starts x) ≡ length (base_rows (piece_rows x) j.osm) = stops_counted n 0 (code_starts x) ∙ edges_count (junction_rows x) (piece_rows x) n no_junction (rise x) low in
            let few : nat_lt 127 (length (base_rows (piece_rows x) j.osm)) ≡ false = none_passes (too_many (piece_rows x)) (λ i. nat_lt 127 (length (base_rows (piece_rows x) i.osm))) (junction_rows x) accepted j (in_at (junction_rows x) n no_junction j low refl) in
            elim (cases_lt 127 (length (base_rows (piece_rows x) j.osm))) [
              | inl many ↦ absurd (both_ways (nat_lt 127 (length (base_rows (piece_rows x) j.osm))) few (lt-ltb 127 (length (base_rows (piece_rows x) j.osm)) many))
              | inr least ↦ omega (arith, count, least)
            ]
      ]

pub starts_law : StartsAtCodes
starts_law x accepted = record { inside = starts_inside x; few = few_starts x accepted }
