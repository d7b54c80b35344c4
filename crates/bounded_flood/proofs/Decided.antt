-- the computation decides the relation
use Rattle.std.proofs.Common.{◌≡◌, ℕ, ◌≤◌, Bool, true, List, length, arith}
use Rattle.std.specs.Prelude.{nat_le, not}
use Rattle.std.proofs.lemmas.Bool.{and_parts, and_from, not-true, not_from_false, leb-true, le-leb, both_ways, false_from_ne_true}
use Rattle.bounded_flood.specs.Flood.{Occurs, Linked, to_itself, by_link, CutOff, is_seen, spread, cut_off}
use Rattle.bounded_flood.proofs.Members.{Occurs-place, Occurs-from_test, test-from_Among, no_shorter}
use Rattle.bounded_flood.proofs.Spreads.{flooded}

module _ {J : Type 0} (same : J → J → Bool) (decides : (a b : J) → same a b ≡ true → a ≡ b) (itself_same : (a : J) → same a a ≡ true) (near : J → List J) (v : J) where
  -- where no more were seen than looked at, they are all that are linked
  all_linked : (n : ℕ) → length (spread same near v n) ≤ n → {x : J} → Linked near v x → Occurs x (spread same near v n)
  all_linked n few to_itself = (flooded same decides itself_same near v n).0.first
  all_linked n few (by_link {x = w} {y = y} l h) =
      let place = Occurs-place w (spread same near v n) (all_linked n few l) in
      (flooded same decides itself_same near v n).1 place.0 w y (omega (arith, place.1)) place.2 h

  pub CutOff-from_true : (limit : ℕ) (u : J) → cut_off same near limit u v ≡ true → CutOff near limit u v
  unfolding cut_off
  CutOff-from_true limit u h =
      let seen : List J = spread same near v limit in
      let parts = and_parts (nat_le (length seen) limit) (not (is_seen same u seen)) h in
      let few : length seen ≤ limit = leb-true (length seen) limit parts.0 in
      record {
        side = seen;
        few = few;
        whole = λ x l. all_linked limit few l;
        apart = λ l. both_ways (is_seen same u seen) (not-true (is_seen same u seen) parts.1)
            (test-from_Among same decides itself_same u seen (all_linked limit few l));
      }

  pub true-from_CutOff : (limit : ℕ) (u : J) → CutOff near limit u v → cut_off same near limit u v ≡ true
  unfolding cut_off
  true-from_CutOff limit u c =
      let seen : List J = spread same near v limit in
      let flood = (flooded same decides itself_same near v limit).0 in
      and_from (nat_le (length seen) limit) (not (is_seen same u seen))
      (le-leb (length seen) limit (omega (arith, c.few, no_shorter seen c.side flood.distinct (λ x a. c.whole x (flood.linked x a)))))
      (not_from_false (is_seen same u seen) (false_from_ne_true (is_seen same u seen)
      (λ e. c.apart (flood.linked u (Occurs-from_test same decides itself_same u seen e)))))
