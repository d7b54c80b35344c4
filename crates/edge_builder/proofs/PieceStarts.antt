-- At each junction a directed piece starts.
use Rattle.std.proofs.Common.{◌≡◌, ℕ, ◌+◌, ◌-◌, ◌<◌, ◌≤◌, refl, sym, ◌∙◌, ap, subst, List, [], ◌∷◌, map, length, get_or, ℤ, pos, Bool, true, false, cond, inl, inr, arith}
use Rattle.std.specs.Prelude.{◌||◌, ◌&&◌, nat_le, sum_by}
use Rattle.std.specs.List.{list_any, dedup}
use Rattle.std.specs.Option.{option_map_or}
use Rattle.std.specs.Ordering.{int_eq}
use Rattle.std.specs.Cmp.{signed_Decides}
use Rattle.std.proofs.lemmas.Bool.{cases_Bool, cases_lt, or_cases, both_ways, leb-true, and_parts, cond-false}
use Rattle.std.proofs.lemmas.List.Sums.{sum_by-cons}
use Rattle.osm_model.specs.declared.nodes.OsmNode.{OsmNode}
use Rattle.osm_model.specs.declared.extract.Extract.{Extract}
use Rattle.road_pieces.specs.DirectedPiece.{DirectedPiece}
use Rattle.road_pieces.specs.Rules.{is_routable}
use Rattle.road_pieces.specs.Runs.{has_node, stretches, runs, way_runs, all_runs, run, is_first, is_last, is_end, times, has_barrier, is_junction}
use Rattle.road_pieces.specs.Steps.{node}
use Rattle.road_pieces.specs.Pieces.{IsPiece, piece_start}
use Rattle.road_pieces.proofs.Nearest.{piece_ahead, piece_back}
use Rattle.road_pieces.proofs.Members.{IsIn, at_in, of_flat}
use Rattle.road_walks.proofs.Sorted.{of_any, of_filter}
use Rattle.edge_builder.proofs.FoundRows.{found_way}

-- ---- a junction stands in a run

first_in : (n : ℤ) (r : List ℤ) → is_first n r ≡ true → IsIn r n
first_in n [] h = absurd (both_ways false refl h)
first_in n (m ∷ r) h = inl ((signed_Decides m n).0 h)

last_in : (n : ℤ) (r : List ℤ) → is_last n r ≡ true → IsIn r n
last_in n [] h = absurd (both_ways false refl h)
last_in n (m ∷ []) h = inl ((signed_Decides m n).0 h)
last_in n (m ∷ (k ∷ r)) h = inr (last_in n (k ∷ r) h)

times_in : (n : ℤ) (r : List ℤ) → 1 ≤ times n r → IsIn r n
times_in n [] h = absurd (omega (arith, h))
times_in n (m ∷ r) h =
    elim (cases_Bool (int_eq m n)) [
      | inl same ↦ inl ((signed_Decides m n).0 same)
      | inr other ↦ inr (times_in n r (omega (arith, h, sum_by-cons (λ k. cond (int_eq k n) 1 0) m r, cond-false {A = ℕ} (int_eq m n) 1 0 other)))
    ]

run_in : (n : ℤ) (rs : List (List ℤ)) → 1 ≤ sum_by (times n) rs → (r : List ℤ) × (IsIn rs r × IsIn r n)
run_in n [] h = absurd (omega (arith, h))
run_in n (r ∷ rs) h =
    elim (cases_lt 0 (times n r)) [
      | inl some ↦ (r, (inl refl, times_in n r (omega (arith, some))))
      | inr without ↦ let (s, (is, there)) = run_in n rs (omega (arith, h, without, sum_by-cons (times n) r rs)) in (s, (inr is, there))
    ]

run_of : (x : Extract) (n : ℤ) → is_junction x n ≡ true → (r : List ℤ) × (IsIn (all_runs x) r × IsIn r n)
run_of x n h =
    elim (or_cases (list_any (is_end n) (all_runs x) || nat_le 2 (sum_by (times n) (all_runs x))) (has_barrier x.nodes n && nat_le 1 (sum_by (times n) (all_runs x))) h) [
      | inl counted ↦ elim (or_cases (list_any (is_end n) (all_runs x)) (nat_le 2 (sum_by (times n) (all_runs x))) counted) [
        | inl ends ↦ let (r, (is, passes)) = of_any (is_end n) (all_runs x) ends in
            (r, (is, elim (or_cases (is_first n r) (is_last n r) passes) [ inl first ↦ first_in n r first | inr last ↦ last_in n r last ]))
        | inr twice ↦ let l = leb-true 2 (sum_by (times n) (all_runs x)) twice in run_in n (all_runs x) (omega (arith, l))
      ]
      | inr barrier ↦ run_in n (all_runs x) (leb-true 1 (sum_by (times n) (all_runs x)) (and_parts _ _ barrier).1)
    ]

-- ---- and a piece goes on from there

long_run : (nodes : List OsmNode) (refs r : List ℤ) (b : Bool) → IsIn (cond b (runs nodes refs) []) r → 2 ≤ length r
long_run nodes refs r true h = leb-true 2 (length r) ((of_filter (λ s. nat_le 2 (length s)) (map (dedup int_eq) (stretches (has_node nodes) refs)) r h).1)
long_run nodes refs r false h = absurd h

piece_at : (x : Extract) (way : ℤ) (number k : ℕ) → 2 ≤ length (run x way number) → k < length (run x way number) → is_junction x (node x way number k) ≡ true → (p : DirectedPiece) × (IsPiece x p × (piece_start x p ≡ node x way number k))
piece_at x way number k long inside here =
    elim (cases_lt (k + 1) (length (run x way number))) [
      | inl more ↦ let (to, piece) = piece_ahead x way number k more here in
          (record { way = way; run = number; from = k; to = to; forward = true }, (piece, refl))
      | inr last ↦ let same : node x way number (k - 1 + 1) ≡ node x way number k = ap (node x way number) {x = k - 1 + 1} {y = k} (omega (arith, long, inside, last)) in
          let (from, piece) = piece_back x way number (k - 1) (omega (arith, long, inside, last)) (ap (is_junction x) same ∙ here) in
          (record { way = way; run = number; from = from; to = k - 1 + 1; forward = false }, (piece, same))
    ]

pub piece_there : (x : Extract) (n : ℤ) → is_junction x n ≡ true → (p : DirectedPiece) × (IsPiece x p × (piece_start x p ≡ n))
piece_there x n here =
    let (r, (is_run, stands)) = run_of x n here in
    let (k, (inside, is)) = at_in r n stands in
    let (w, (there, in_way)) = of_flat (way_runs x.nodes) x.ways r is_run in
    let (number, (early, same)) = at_in (way_runs x.nodes w) r in_way in
    let nodes : run x w.id number ≡ r = ap (λ o. get_or (option_map_or (way_runs x.nodes) o []) number []) (found_way x w there) ∙ same [] in
    let at : node x w.id number k ≡ n = ap (λ s. get_or s k (pos 0)) nodes ∙ is (pos 0) in
    let (p, (piece, starts)) = piece_at x w.id number k (subst (λ s. 2 ≤ length s) (sym nodes) (long_run x.nodes w.refs r (is_routable w.tags) in_way)) (subst (λ s. k < length s) (sym nodes) inside) (ap (is_junction x) at ∙ here) in
    (p, (piece, starts ∙ at))
