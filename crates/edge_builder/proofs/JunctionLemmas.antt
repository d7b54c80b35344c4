-- Junctions in order of id: the place of an id.
use Rattle.std.proofs.Common.{◌≡◌, ℕ, ◌<◌, refl, sym, subst, List, length, get_or, ℤ, pos, Bool, true, false, nat_eq, inl, inr, arith, eq-eqb, eqb-true}
use Rattle.std.specs.Prelude.{◌<ℤ◌}
use Rattle.std.specs.Ordering.{int_eq}
use Rattle.std.specs.Cmp.{signed_Decides}
use Rattle.std.proofs.lemmas.Int.{ints}
use Rattle.std.proofs.lemmas.Bool.{both_ways, false_from_ne_true, cases_order}
use Rattle.std.proofs.lemmas.List.Sums.{position_or_len_is, passes_at_first}
use Rattle.road_pieces.specs.declared.rows.Junction.{Junction}
use Rattle.edge_builder.specs.BaseRows.{junction_place, JunctionsRise}

-- any junction
abbrev pub no_junction : Junction
no_junction = record { osm = pos 0; at = record { lat = pos 0; lon = pos 0 }; access = 0; barrier = false }

-- what stands at the place of an id has that id
pub id_there : (js : List Junction) (id : ℤ) (d : Junction) → junction_place js id < length js → (get_or js (junction_place js id) d).osm ≡ id
id_there js id d h = (signed_Decides _ _).0 (passes_at_first (λ j. int_eq j.osm id) js d h)

pub below_differs : (a b : ℤ) → a <ℤ b → int_eq a b ≡ false
below_differs a b h = false_from_ne_true (int_eq a b) (λ e. absurd (omega (arith, ints, (signed_Decides a b).0 e)))

pub place_is : (js : List Junction) (m : ℕ) (id : ℤ) (d : Junction) → JunctionsRise js → m < length js → (get_or js m d).osm ≡ id → junction_place js id ≡ m
place_is js m id d rise h e =
    position_or_len_is (λ j. int_eq j.osm id) js m d (omega arith)
    (λ k l. below_differs (get_or js k d).osm id (subst (λ i. (get_or js k d).osm <ℤ i) e (rise k m d l h)))
    (λ l. (signed_Decides (get_or js m d).osm id).1 e)

pub place_below : (js : List Junction) (m : ℕ) (id : ℤ) (d : Junction) → JunctionsRise js → junction_place js id < length js → m < length js → (get_or js m d).osm <ℤ id → m < junction_place js id
place_below js m id d rise there h low =
    let here = id_there js id d there in
    elim (cases_order m (junction_place js id)) [
      | inl at ↦ let same = subst (λ k. (get_or js k d).osm <ℤ id) at low in absurd (omega (arith, ints, same, here))
      | inr other ↦ elim other [
        | inl less ↦ less
        | inr more ↦ let r = rise (junction_place js id) m d more h in absurd (omega (arith, ints, r, here, low))
      ]
    ]

pub place_above : (js : List Junction) (m : ℕ) (id : ℤ) (d : Junction) → JunctionsRise js → junction_place js id < length js → m < length js → id <ℤ (get_or js m d).osm → junction_place js id < m
place_above js m id d rise there h high =
    let here = id_there js id d there in
    elim (cases_order m (junction_place js id)) [
      | inl at ↦ let same = subst (λ k. id <ℤ (get_or js k d).osm) at high in absurd (omega (arith, ints, same, here))
      | inr other ↦ elim other [
        | inl less ↦ let r = rise m (junction_place js id) d less there in absurd (omega (arith, ints, r, here, high))
        | inr more ↦ more
      ]
    ]

-- a node has that place exactly where it is that junction
pub place_test : (js : List Junction) (p : ℕ) (d : Junction) → JunctionsRise js → p < length js → (n : ℤ) → nat_eq (junction_place js n) p ≡ int_eq n (get_or js p d).osm
place_test js p d rise h n = by (int_eq n (get_or js p d).osm) refl
  where
    id_told : nat_eq (junction_place js n) p ≡ true → int_eq n (get_or js p d).osm ≡ true
    id_told e =
        let at : junction_place js n ≡ p = eqb-true _ _ e in
        let id : (get_or js p d).osm ≡ n = subst (λ k. (get_or js k d).osm ≡ n) at (id_there js n d (omega (arith, at, h))) in
        (signed_Decides n (get_or js p d).osm).1 (sym id)

    by : (b : Bool) → int_eq n (get_or js p d).osm ≡ b → nat_eq (junction_place js n) p ≡ b
    by true q = eq-eqb _ _ (place_is js p n d rise h (sym ((signed_Decides _ _).0 q)))
    by false q = false_from_ne_true _ (λ e. both_ways _ q (id_told e))
