-- Two pieces of one run that have one number are one piece: to tell a piece by its number is to tell it by its ends.
use Rattle.std.proofs.Common.{◌≡◌, ℕ, zero, suc, ◌+◌, ◌<◌, refl, sym, ◌∙◌, ap, subst, List, [], ◌∷◌, length, get_or, ℤ, pos, Bool, true, false, cond, inl, inr, arith}
use Rattle.std.specs.Prelude.{nat_eq, not, ◌&&◌}
use Rattle.std.specs.Ordering.{int_eq}
use Rattle.std.specs.Cmp.{signed_Decides}
use Rattle.std.proofs.lemmas.Bool.{and_parts, both_ways, cases_order, eqb-true, eq-eqb}
use Rattle.osm_model.specs.declared.extract.Extract.{Extract}
use Rattle.road_pieces.specs.DirectedPiece.{DirectedPiece}
use Rattle.road_pieces.specs.Pieces.{IsPiece}
use Rattle.road_pieces.specs.Rows.{stops}
use Rattle.road_pieces.specs.Runs.{run, is_junction}
use Rattle.road_pieces.specs.Steps.{node}
use Rattle.road_pieces.proofs.Members.{IsIn}
use Rattle.road_walks.specs.BaseEdges.{is_same, reverse_of}
use Rattle.road_walks.proofs.Locals.{and_both, same_only}
use Rattle.edge_builder.specs.ExtractRows.{piece_number, edge_of_extract}
use Rattle.tile_numbers.specs.LookUps.{runs_back}
use Rattle.level_tiles.proofs.RecordPlaces.{same_bools, place_own}

-- a place where the test passes is a stop
stop_there : (test : ℤ → Bool) (ns : List ℤ) (k i : ℕ) (d : ℤ) → i < length ns → test (get_or ns i d) ≡ true → IsIn (stops test k ns) (k + i)
stop_there test [] k i d h passes = absurd (omega (arith, h))
stop_there test (n ∷ ns) k zero d h passes =
    subst (λ b. IsIn (cond b (k ∷ stops test (k + 1) ns) (stops test (k + 1) ns)) (k + 0)) (sym passes) (inl (omega arith))
stop_there test (n ∷ ns) k (suc i) d h passes =
    by (test n) (subst (IsIn (stops test (k + 1) ns)) {x = k + 1 + i} {y = k + suc i} (omega arith) (stop_there test ns (k + 1) i d (omega (arith, h)) passes))
  where
    by : (b : Bool) → IsIn (stops test (k + 1) ns) (k + suc i) → IsIn (cond b (k ∷ stops test (k + 1) ns) (stops test (k + 1) ns)) (k + suc i)
    by true there = inr there
    by false there = there

module _ (x : Extract) where
  -- a piece begins at a stop of its run
  begins_at : (p : DirectedPiece) → IsPiece x p → IsIn (stops (is_junction x) 0 (run x p.way p.run)) p.from
  begins_at p is =
      let inside : p.from < length (run x p.way p.run) = omega (arith, is.rises, is.inside) in
      subst (IsIn (stops (is_junction x) 0 (run x p.way p.run))) {x = 0 + p.from} {y = p.from} (omega arith) (stop_there (is_junction x) (run x p.way p.run) 0 p.from (pos 0) inside is.begins)

  -- a piece that begins where another one begins ends where it ends
  ends_at : (way : ℤ) (number from to other : ℕ) (forward back : Bool) → IsPiece x (record { way = way; run = number; from = from; to = to; forward = forward }) → IsPiece x (record { way = way; run = number; from = from; to = other; forward = back }) → to ≡ other
  ends_at way number from to other forward back is too =
      elim (cases_order to other) [
        | inl e ↦ e
        | inr differ ↦ elim differ [
          | inl below ↦ absurd (both_ways (is_junction x (node x way number to)) (too.plain to is.rises below) is.ends)
          | inr above ↦ absurd (both_ways (is_junction x (node x way number other)) (is.plain other too.rises above) too.ends)
        ]
      ]

  same_run_ends : (p : DirectedPiece) (from to : ℕ) (forward : Bool) → IsPiece x p → IsPiece x (record { way = p.way; run = p.run; from = from; to = to; forward = forward }) → piece_number x p ≡ piece_number x (record { way = p.way; run = p.run; from = from; to = to; forward = forward }) → (p.from ≡ from) × (p.to ≡ to)
  same_run_ends p from to forward is too number =
      let begins : p.from ≡ from =
      place_own (stops (is_junction x) 0 (run x p.way p.run)) p.from from (begins_at p is) (begins_at (record { way = p.way; run = p.run; from = from; to = to; forward = forward }) too) number in
      (begins, ends_at p.way p.run p.from p.to to p.forward forward is (subst (λ k. IsPiece x (record { way = p.way; run = p.run; from = k; to = to; forward = forward })) (sym begins) too))

  pub same_ends : (p q : DirectedPiece) → p.way ≡ q.way → p.run ≡ q.run → IsPiece x p → IsPiece x q → piece_number x p ≡ piece_number x q → (p.from ≡ q.from) × (p.to ≡ q.to)
  same_ends p q way number is too same =
      let moved : q ≡ record { way = p.way; run = p.run; from = q.from; to = q.to; forward = q.forward } = λ i. record { way = sym way i; run = sym number i; from = q.from; to = q.to; forward = q.forward } in
      same_run_ends p q.from q.to q.forward is (subst (IsPiece x) moved too) (same ∙ ap (piece_number x) moved)

  -- by its key an edge is found to run back where it is the piece in the other direction
  one_direction : (a b : Bool) → cond a (not b) b ≡ true → cond (not a) b (not b) ≡ true
  one_direction true b h = h
  one_direction false b h = h

  pub runs_back_is : (k : ℕ) (p q : DirectedPiece) → IsPiece x p → IsPiece x q → runs_back (edge_of_extract x k p).key (edge_of_extract x k q) ≡ is_same (reverse_of p) q
  runs_back_is k p q is too = same_bools (runs_back (edge_of_extract x k p).key (edge_of_extract x k q)) (is_same (reverse_of p) q) to back
    where
      to : runs_back (edge_of_extract x k p).key (edge_of_extract x k q) ≡ true → is_same (reverse_of p) q ≡ true
      to h =
          let (h3, round) = and_parts ((int_eq p.way q.way && nat_eq p.run q.run) && nat_eq (piece_number x p) (piece_number x q)) (cond p.forward (not q.forward) q.forward) h in
          let (h2, number) = and_parts (int_eq p.way q.way && nat_eq p.run q.run) (nat_eq (piece_number x p) (piece_number x q)) h3 in
          let (way, run_is) = and_parts (int_eq p.way q.way) (nat_eq p.run q.run) h2 in
          let (from, end) = same_ends p q ((signed_Decides p.way q.way).0 way) (eqb-true p.run q.run run_is) is too (eqb-true (piece_number x p) (piece_number x q) number) in
          and_both _ _ way (and_both _ _ run_is (and_both _ _ (eq-eqb p.from q.from from) (and_both _ _ (eq-eqb p.to q.to end) (one_direction p.forward q.forward round))))

      turned : (a : Bool) → cond a (not (not a)) (not a) ≡ true
      turned true = refl
      turned false = refl

      back : is_same (reverse_of p) q ≡ true → runs_back (edge_of_extract x k p).key (edge_of_extract x k q) ≡ true
      back h =
          subst (λ r. runs_back (edge_of_extract x k p).key (edge_of_extract x k r) ≡ true) (same_only (reverse_of p) q h)
          (and_both _ _ (and_both _ _ (and_both _ _ ((signed_Decides p.way p.way).1 refl) (eq-eqb p.run p.run refl)) (eq-eqb (piece_number x p) (piece_number x p) refl)) (turned p.forward))
