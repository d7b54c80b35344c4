-- Each directed piece of the list is one.
use Rattle.std.proofs.Common.{◌≡◌, ℕ, ◌+◌, ◌<◌, refl, sym, ◌∙◌, ap, subst, List, [], ◌∷◌, length, get_or, pos, Bool, true, false, inl, inr, arith}
use Rattle.std.specs.Prelude.{◌⊎◌, Some, None, find, ◌<ℤ◌}
use Rattle.std.specs.List.{enumerate_from}
use Rattle.std.specs.Option.{option_map_or}
use Rattle.std.specs.Ordering.{int_eq}
use Rattle.std.specs.Cmp.{signed_Decides}
use Rattle.std.proofs.lemmas.Bool.{both_ways, cases_order}
use Rattle.std.proofs.lemmas.Int.{ints}
use Rattle.osm_model.specs.declared.ways.OsmWay.{OsmWay}
use Rattle.osm_model.specs.declared.extract.Extract.{Extract}
use Rattle.road_pieces.specs.DirectedPiece.{DirectedPiece}
use Rattle.road_pieces.specs.Runs.{way_runs, run, is_junction}
use Rattle.road_pieces.specs.Steps.{node}
use Rattle.road_pieces.specs.Rows.{stops, spans}
use Rattle.road_pieces.specs.Pieces.{IsPiece}
use Rattle.road_pieces.proofs.Members.{IsIn, IsAt, at_in, of_flat, of_numbered}
use Rattle.road_pieces.proofs.Spans.{IsSpan, stops_by, stops_are, sound}
use Rattle.road_walks.specs.BaseEdges.{run_pieces, way_pieces, directed_pieces}
use Rattle.road_walks.proofs.Locals.{find_cases}

not_found : (test : OsmWay → Bool) (ways : List OsmWay) (w : OsmWay) → IsIn ways w → test w ≡ true → find test ways ≡ None → ⊥
not_found test [] w h passes none = h
not_found test (v ∷ ways) w h passes none = by (test v) refl h none (λ there. not_found test ways w there passes)
  where
    by : (b : Bool) → test v ≡ b → (v ≡ w) ⊎ IsIn ways w → Rattle.std.specs.Prelude.cond b (Some v) (find test ways) ≡ None → (IsIn ways w → find test ways ≡ None → ⊥) → ⊥
    by true t h none rest = Rattle.std.proofs.lemmas.Option.none-some v (sym none)
    by false t (inl is) none rest = both_ways (test v) t (ap test is ∙ passes)
    by false t (inr there) none rest = rest there none

module _ (x : Extract) where
  -- a way is the only one with its id
  one_way : (v w : OsmWay) → IsIn x.ways v → IsIn x.ways w → v.id ≡ w.id → v ≡ w
  one_way v w in_v in_w same =
      let (a, (in_a, at_a)) = at_in x.ways v in_v in
      let (b, (in_b, at_b)) = at_in x.ways w in_w in
      elim (cases_order a b) [
        | inl e ↦ sym (at_a v) ∙ (ap (λ i. get_or x.ways i v) e ∙ at_b v)
        | inr other ↦ elim other [
          | inl below ↦ let less : (get_or x.ways a v).id <ℤ (get_or x.ways b v).id = x.ways_rise a b v below in_b in
              let p : (get_or x.ways a v).id ≡ v.id = ap (λ u. u.id) (at_a v) in
              let q : (get_or x.ways b v).id ≡ w.id = ap (λ u. u.id) (at_b v) in
              absurd (omega (arith, ints, less, p, q, same))
          | inr above ↦ let less : (get_or x.ways b v).id <ℤ (get_or x.ways a v).id = x.ways_rise b a v above in_a in
              let p : (get_or x.ways a v).id ≡ v.id = ap (λ u. u.id) (at_a v) in
              let q : (get_or x.ways b v).id ≡ w.id = ap (λ u. u.id) (at_b v) in
              absurd (omega (arith, ints, less, p, q, same))
        ]
      ]

  find_own : (w : OsmWay) → IsIn x.ways w → find (λ v. int_eq v.id w.id) x.ways ≡ Some w
  find_own w there =
      elim (find_cases (λ v. int_eq v.id w.id) x.ways) [
        | inl none ↦ absurd (not_found (λ v. int_eq v.id w.id) x.ways w there ((signed_Decides w.id w.id).1 refl) none)
        | inr found ↦ let (v, (on, (passes, is))) = found in is ∙ ap Some (one_way v w on there ((signed_Decides v.id w.id).0 passes))
      ]

  pub pieces_are : (p : DirectedPiece) → IsIn (directed_pieces x) p → IsPiece x p
  pieces_are p h =
      let (w, (there, on_way)) = of_flat (way_pieces x) x.ways p h in
      let ((number, r), (numbered, on_run)) = of_flat (λ (number, r). run_pieces x w.id number r) (enumerate_from 0 (way_runs x.nodes w)) p on_way in
      let at : IsAt 0 (way_runs x.nodes w) number r = of_numbered 0 (way_runs x.nodes w) (number, r) numbered in
      let run_is : run x w.id number ≡ r =
      ap (λ o. get_or (option_map_or (way_runs x.nodes) o []) number []) (find_own w there) ∙ (ap (λ i. get_or (way_runs x.nodes w) i []) (at.number_is ∙ omega arith) ∙ at.is []) in
      let ((from, to), (span, either)) = of_flat (λ (from, to). record { way = w.id; run = number; from = from; to = to; forward = true } ∷ (record { way = w.id; run = number; from = from; to = to; forward = false } ∷ [])) (spans (stops (is_junction x) 0 r)) p on_run in
      let test : ℕ → Bool = λ k. is_junction x (node x w.id number k) in
      let its : stops (is_junction x) 0 r ≡ stops_by test 0 (length r) =
      stops_are (is_junction x) (pos 0) test r 0 (λ i k. ap test {x = 0 + i} {y = i} (omega arith) ∙ ap (λ l. is_junction x (get_or l i (pos 0))) run_is) in
      let s : IsSpan test (0 + length r) from to = sound test (length r) 0 from to (subst (λ l. IsIn (spans l) (from, to)) its span) in
      let inside : to < length (run x w.id number) = subst (λ l. to < length l) (sym run_is) (let h = s.inside in omega (arith, h)) in
      elim either [
        | inl is ↦ subst (IsPiece x) is (record { rises = s.rises; inside = inside; begins = s.begins; ends = s.ends; plain = s.plain })
        | inr other ↦ elim other [
          | inl is ↦ subst (IsPiece x) is (record { rises = s.rises; inside = inside; begins = s.begins; ends = s.ends; plain = s.plain })
          | inr none ↦ absurd none
        ]
      ]
