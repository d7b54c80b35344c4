-- The directed pieces of an extract come in pairs: each piece that runs forward, and behind it the same piece backward.
use Rattle.std.proofs.Common.{◌≡◌, ℕ, suc, zero, ◌*◌, ◌<◌, refl, List, [], ◌∷◌, ◌++◌, length, get_or, subst, ℤ, true, false, arith}
use Rattle.std.specs.Prelude.{⊤}
use Rattle.std.specs.List.{flat_map, enumerate_from}
use Rattle.osm_model.specs.declared.extract.Extract.{Extract}
use Rattle.road_pieces.specs.DirectedPiece.{DirectedPiece}
use Rattle.road_pieces.specs.Runs.{way_runs, is_junction}
use Rattle.road_pieces.specs.Rows.{stops, spans}
use Rattle.road_walks.specs.BaseEdges.{run_pieces, way_pieces, directed_pieces, reverse_of}

abbrev pub ArePaired : List DirectedPiece → Type 0
ArePaired [] = ⊤
ArePaired (p ∷ []) = ⊥
ArePaired (p ∷ (q ∷ ps)) = (p.forward ≡ true) × ((q ≡ reverse_of p) × ArePaired ps)

paired_append : (ps qs : List DirectedPiece) → ArePaired ps → ArePaired qs → ArePaired (ps ++ qs)
paired_append [] qs h k = k
paired_append (p ∷ []) qs h k = absurd h
paired_append (p ∷ (q ∷ ps)) qs h k = (h.0, (h.1.0, paired_append ps qs h.1.1 k))

paired_flat : {A : Type 0} (f : A → List DirectedPiece) (xs : List A) → ((a : A) → ArePaired (f a)) → ArePaired (flat_map f xs)
paired_flat f [] each = tt
paired_flat f (a ∷ xs) each = paired_append (f a) (flat_map f xs) (each a) (paired_flat f xs each)

module _ (x : Extract) where
  run_paired : (way : ℤ) (number : ℕ) (run : List ℤ) → ArePaired (run_pieces x way number run)
  run_paired way number run =
      paired_flat (λ (from, to). record { way = way; run = number; from = from; to = to; forward = true } ∷ (record { way = way; run = number; from = from; to = to; forward = false } ∷ [])) (spans (stops (is_junction x) 0 run))
      (λ (from, to). (refl, (refl, tt)))

  pub paired : ArePaired (directed_pieces x)
  paired = paired_flat (way_pieces x) x.ways (λ w. paired_flat (λ (number, run). run_pieces x w.id number run) (enumerate_from 0 (way_runs x.nodes w)) (λ (number, run). run_paired w.id number run))

-- behind a piece that runs forward stands its reverse
pub reverse_behind : (ps : List DirectedPiece) (k : ℕ) (d : DirectedPiece) → ArePaired ps → 2 * k < length ps → (get_or ps (suc (2 * k)) d ≡ reverse_of (get_or ps (2 * k) d)) × (suc (2 * k) < length ps)
reverse_behind [] k d h l = absurd (omega (arith, l))
reverse_behind (p ∷ []) k d h l = absurd h
reverse_behind (p ∷ (q ∷ ps)) zero d h l = (h.1.0, omega arith)
reverse_behind (p ∷ (q ∷ ps)) (suc k) d h l =
    let rest = reverse_behind ps k d h.1.1 (omega (arith, l)) in
    let further : suc (2 * k) < length ps = rest.1 in
    subst (λ n. (get_or (p ∷ (q ∷ ps)) (suc n) d ≡ reverse_of (get_or (p ∷ (q ∷ ps)) n d)) × (suc n < length (p ∷ (q ∷ ps)))) {x = suc (suc (2 * k))} {y = 2 * suc k} (omega arith)
    (rest.0, omega (arith, further))
