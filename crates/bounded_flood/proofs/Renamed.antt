-- a flood over other names of the junctions finds the same
use Rattle.std.proofs.Common.{◌≡◌, ℕ, zero, suc, ◌<◌, Bool, true, false, cond, Option, Some, None, List, [], ◌∷◌, ◌++◌, length, map, refl, sym, ap, ◌∙◌, arith}
use Rattle.std.specs.Prelude.{slice_get, nat_le, not, ◌&&◌, ◌||◌, option_map}
use Rattle.std.proofs.lemmas.List.{map-append, length-map}
use Rattle.std.proofs.lemmas.Option.{slice_get-map}
use Rattle.bounded_flood.specs.Flood.{is_seen, seen_too, seen_all, near_of, spread, cut_off}
use Rattle.bounded_flood.proofs.Stages.{spread-next, spread-start}

module _ {A B : Type 0} (f : A → B) (same_a : A → A → Bool) (same_b : B → B → Bool) (apart : (x y : A) → same_b (f x) (f y) ≡ same_a x y) where
  is_seen-map : (x : A) (xs : List A) → is_seen same_b (f x) (map f xs) ≡ is_seen same_a x xs
  is_seen-map x [] = refl
  is_seen-map x (y ∷ ys) = ap (λ b. b || is_seen same_b (f x) (map f ys)) (apart y x) ∙ ap (λ b. same_a y x || b) (is_seen-map x ys)

  cond-map : (b : Bool) (xs : List A) (x : A) → cond b (map f xs) (map f xs ++ f x ∷ []) ≡ map f (cond b xs (xs ++ x ∷ []))
  cond-map true xs x = refl
  cond-map false xs x = sym (map-append f xs (x ∷ []))

  seen_too-map : (seen : List A) (x : A) → seen_too same_b (map f seen) (f x) ≡ map f (seen_too same_a seen x)
  seen_too-map seen x = ap (λ b. cond b (map f seen) (map f seen ++ f x ∷ [])) (is_seen-map x seen) ∙ cond-map (is_seen same_a x seen) seen x

  seen_all-map : (seen xs : List A) → seen_all same_b (map f seen) (map f xs) ≡ map f (seen_all same_a seen xs)
  seen_all-map seen [] = refl
  seen_all-map seen (x ∷ xs) = ap (λ s. seen_all same_b s (map f xs)) (seen_too-map seen x) ∙ seen_all-map (seen_too same_a seen x) xs

  module _ (near_a : A → List A) (near_b : B → List B) (named : (x : A) → near_b (f x) ≡ map f (near_a x)) where
    near_of-map : (o : Option A) → near_of near_b (option_map f o) ≡ map f (near_of near_a o)
    near_of-map None = refl
    near_of-map (Some x) = named x

    pub spread-map : (v : A) (n : ℕ) → spread same_b near_b (f v) n ≡ map f (spread same_a near_a v n)
    spread-map v zero = spread-start same_b near_b (f v) ∙ ap (map f) (sym (spread-start same_a near_a v))
    spread-map v (suc n) =
        spread-next same_b near_b (f v) n
        ∙ ap (λ s. seen_all same_b s (near_of near_b (slice_get s n))) (spread-map v n)
        ∙ ap (λ o. seen_all same_b (map f (spread same_a near_a v n)) (near_of near_b o)) (slice_get-map f (spread same_a near_a v n) n)
        ∙ ap (λ ns. seen_all same_b (map f (spread same_a near_a v n)) ns) (near_of-map (slice_get (spread same_a near_a v n) n))
        ∙ seen_all-map (spread same_a near_a v n) (near_of near_a (slice_get (spread same_a near_a v n) n))
        ∙ ap (map f) (sym (spread-next same_a near_a v n))

    -- whether v is on a side of its own is the same by either name
    pub cut_off-map : (limit : ℕ) (u v : A) → cut_off same_b near_b limit (f u) (f v) ≡ cut_off same_a near_a limit u v
    unfolding cut_off
    cut_off-map limit u v =
        ap (λ s. nat_le (length s) limit && not (is_seen same_b (f u) s)) (spread-map v limit)
        ∙ ap (λ n. nat_le n limit && not (is_seen same_b (f u) (map f (spread same_a near_a v limit)))) (length-map (spread same_a near_a v limit) f)
        ∙ ap (λ b. nat_le (length (spread same_a near_a v limit)) limit && not b) (is_seen-map u (spread same_a near_a v limit))

  -- the same as long as the junctions that are looked at have the same neighbours by either name: what a flood inside one tile knows
  module _ (near_a : A → List A) (near_b : B → List B) (v : A) where
    near_of-here : (o : Option A) → ((x : A) → o ≡ Some x → near_b (f x) ≡ map f (near_a x)) → near_of near_b (option_map f o) ≡ map f (near_of near_a o)
    near_of-here None named = refl
    near_of-here (Some x) named = named x refl

    pub spread-map_while : (n : ℕ) → ((m : ℕ) (x : A) → m < n → slice_get (spread same_a near_a v m) m ≡ Some x → near_b (f x) ≡ map f (near_a x))
        → spread same_b near_b (f v) n ≡ map f (spread same_a near_a v n)
    spread-map_while zero named = spread-start same_b near_b (f v) ∙ ap (map f) (sym (spread-start same_a near_a v))
    spread-map_while (suc n) named =
        spread-next same_b near_b (f v) n
        ∙ ap (λ s. seen_all same_b s (near_of near_b (slice_get s n))) (spread-map_while n (λ m x small at. named m x (omega arith) at))
        ∙ ap (λ o. seen_all same_b (map f (spread same_a near_a v n)) (near_of near_b o)) (slice_get-map f (spread same_a near_a v n) n)
        ∙ ap (λ ns. seen_all same_b (map f (spread same_a near_a v n)) ns) (near_of-here (slice_get (spread same_a near_a v n) n) (λ x at. named n x (omega arith) at))
        ∙ seen_all-map (spread same_a near_a v n) (near_of near_a (slice_get (spread same_a near_a v n) n))
        ∙ ap (map f) (sym (spread-next same_a near_a v n))
