-- The pieces next to a place of a run: from a junction ahead to the next one, and back to the one before.
use Rattle.std.proofs.Common.{◌≡◌, ℕ, zero, suc, ◌+◌, ◌-◌, ◌<◌, ◌≤◌, ◌∙◌, ap, length, ℤ, Bool, true, false, inl, inr, arith}
use Rattle.std.proofs.lemmas.Bool.{cases_Bool, cases_lt}
use Rattle.osm_model.specs.declared.extract.Extract.{Extract}
use Rattle.road_pieces.specs.Runs.{run, is_junction}
use Rattle.road_pieces.specs.Steps.{node}
use Rattle.road_pieces.specs.Pieces.{IsPiece}
use Rattle.road_pieces.proofs.Ends.{first_place, last_place}

module _ (x : Extract) (way : ℤ) (number : ℕ) where
  abbrev at : ℕ → Bool
  at k = is_junction x (node x way number k)

  abbrev size : ℕ
  size = length (run x way number)

  -- the next place after k with a junction
  record Next (k : ℕ) : Type 0 where
    place : ℕ
    after : k < place
    inside : place < size
    stops : at place ≡ true
    plain : (j : ℕ) → k < j → j < place → at j ≡ false

  skip : (k : ℕ) → Next (k + 1) → at (k + 1) ≡ false → Next k
  skip k n without = record {
    place = n.place;
    after = omega (arith, n.after);
    inside = n.inside;
    stops = n.stops;
    plain = λ j h l. elim (cases_lt (k + 1) j) [ inl past ↦ n.plain j past l | inr here ↦ ap at {x = j} {y = k + 1} (omega arith) ∙ without ];
  }

  next_place : (left k : ℕ) → k + 1 + left + 1 ≡ size → Next k
  next_place zero k e = record {
    place = k + 1;
    after = omega arith;
    inside = omega arith;
    stops = last_place x way number (k + 1) (omega arith);
    plain = λ j h l. absurd (omega arith);
  }
  next_place (suc left) k e =
      elim (cases_Bool (at (k + 1))) [
        | inl found ↦ record { place = k + 1; after = omega arith; inside = omega arith; stops = found; plain = λ j h l. absurd (omega arith) }
        | inr without ↦ skip k (next_place left (k + 1) (omega arith)) without
      ]

  -- the last place up to k with a junction
  record Last (k : ℕ) : Type 0 where
    place : ℕ
    before : place ≤ k
    stops : at place ≡ true
    plain : (j : ℕ) → place < j → j ≤ k → at j ≡ false

  down_skip : (k : ℕ) → Last k → at (suc k) ≡ false → Last (suc k)
  down_skip k l without = record {
    place = l.place;
    before = omega (arith, l.before);
    stops = l.stops;
    plain = λ j h m. elim (cases_lt k j) [ inl past ↦ ap at {x = j} {y = suc k} (omega arith) ∙ without | inr here ↦ l.plain j h here ];
  }

  last_stop : (k : ℕ) → k < size → Last k
  last_stop zero h =
      record { place = 0; before = omega arith; stops = first_place x way number h; plain = λ j l m. absurd (omega arith) }
  last_stop (suc k) h =
      elim (cases_Bool (at (suc k))) [
        | inl found ↦ record { place = suc k; before = omega arith; stops = found; plain = λ j l m. absurd (omega arith) }
        | inr without ↦ down_skip k (last_stop k (omega arith)) without
      ]

  pub piece_ahead : (k : ℕ) → k + 1 < size → at k ≡ true → (to : ℕ) × IsPiece x (record { way = way; run = number; from = k; to = to; forward = true })
  piece_ahead k h here =
      let n : Next k = next_place (size - k - 2) k (omega arith) in
      (n.place, record { rises = n.after; inside = n.inside; begins = here; ends = n.stops; plain = n.plain })

  pub piece_back : (k : ℕ) → k + 1 < size → at (k + 1) ≡ true → (from : ℕ) × IsPiece x (record { way = way; run = number; from = from; to = k + 1; forward = false })
  piece_back k h here =
      let l : Last k = last_stop k (omega arith) in
      (l.place, record { rises = omega (arith, l.before); inside = h; begins = l.stops; ends = here; plain = λ j m n. l.plain j m (omega arith) })
