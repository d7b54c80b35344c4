-- a flood that is cut short: what is known of the whole from its beginning
use Rattle.std.proofs.Common.{◌≡◌, ℕ, zero, suc, ◌+◌, ◌<◌, ◌≤◌, Bool, true, false, List, [], ◌∷◌, ◌++◌, length, refl, sym, ap, ◌∙◌, arith, append_assoc}
use Rattle.std.specs.Prelude.{slice_get, nat_le, not, ◌&&◌}
use Rattle.std.proofs.lemmas.Bool.{and_left, and_right, le-leb, lt-leb, or_left, not_from_true}
use Rattle.std.proofs.lemmas.List.{append-nil, length-append}
use Rattle.std.proofs.lemmas.List.Folds.{list_any-append}
use Rattle.std.proofs.lemmas.Option.{slice_get_past}
use Rattle.bounded_flood.specs.Flood.{is_seen, seen_all, near_of, spread, cut_off}
use Rattle.bounded_flood.proofs.Spreads.{seen_all-front}

module _ {J : Type 0} (same : J → J → Bool) (near : J → List J) (v : J) where
  pub spread-start : spread same near v 0 ≡ v ∷ []
  unfolding spread
  spread-start = refl

  pub spread-next : (n : ℕ) → spread same near v (suc n) ≡ seen_all same (spread same near v n) (near_of near (slice_get (spread same near v n) n))
  unfolding spread
  spread-next n = refl

  pub spread-front : (m d n : ℕ) → m + d ≡ n → (more : List J) × (spread same near v n ≡ spread same near v m ++ more)
  spread-front m zero n e =
      let is : n ≡ m = omega arith in
      ([], ap (λ k. spread same near v k) is ∙ sym (append-nil (spread same near v m)))
  spread-front m (suc d) zero e = absurd (omega arith)
  spread-front m (suc d) (suc n) e =
      let before = spread-front m d n (omega arith) in
      let last = seen_all-front same (spread same near v n) (near_of near (slice_get (spread same near v n) n)) in (
        before.0 ++ last.0,
        spread-next n ∙ last.1 ∙ ap (λ s. s ++ last.0) before.1 ∙ append_assoc (spread same near v m) before.0 last.0,
      )

  pub spread-stays : (m d n : ℕ) → m + d ≡ n → length (spread same near v m) ≤ m → spread same near v n ≡ spread same near v m
  spread-stays m zero n e few = let is : n ≡ m = omega arith in ap (λ k. spread same near v k) is
  spread-stays m (suc d) zero e few = absurd (omega arith)
  spread-stays m (suc d) (suc n) e few =
      let before = spread-stays m d n (omega arith) few in
      spread-next n
      ∙ ap (λ s. seen_all same s (near_of near (slice_get s n))) before
      ∙ ap (λ o. seen_all same (spread same near v m) (near_of near o)) (slice_get_past (spread same near v m) n (omega arith))

  pub cut_off-when_full : (limit d n : ℕ) (u : J) → n + d ≡ limit → limit < length (spread same near v n) → cut_off same near limit u v ≡ false
  unfolding cut_off
  cut_off-when_full limit d n u e full =
      let front = spread-front n d limit e in
      and_left (nat_le (length (spread same near v limit)) limit) (not (is_seen same u (spread same near v limit)))
      (lt-leb (length (spread same near v limit)) limit
      (omega (arith, ap length front.1, length-append (spread same near v n) front.0)))

  pub cut_off-when_met : (limit d n : ℕ) (u : J) → n + d ≡ limit → is_seen same u (spread same near v n) ≡ true → cut_off same near limit u v ≡ false
  unfolding cut_off
  cut_off-when_met limit d n u e met =
      let front = spread-front n d limit e in
      and_right (nat_le (length (spread same near v limit)) limit) (not (is_seen same u (spread same near v limit)))
      (not_from_true (is_seen same u (spread same near v limit))
      (ap (λ s. is_seen same u s) front.1
      ∙ list_any-append (λ y. same y u) (spread same near v n) front.0
      ∙ or_left (is_seen same u (spread same near v n)) (is_seen same u front.0) met))

  pub cut_off-when_ended : (limit d n : ℕ) (u : J) → n + d ≡ limit → length (spread same near v n) ≤ n → cut_off same near limit u v ≡ not (is_seen same u (spread same near v n))
  unfolding cut_off
  cut_off-when_ended limit d n u e ended =
      let whole = spread-stays n d limit e ended in
      ap (λ s. nat_le (length s) limit && not (is_seen same u s)) whole
      ∙ ap (λ b. b && not (is_seen same u (spread same near v n))) (le-leb (length (spread same near v n)) limit (omega arith))
