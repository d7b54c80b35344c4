-- A search spells exactly the words, in order and each once.
use Rattle.std.proofs.Common.{◌≡◌, refl, sym, ◌∙◌, ap, subst, ℕ, zero, suc, ◌≤◌, Bool, true, false, List, [], ◌∷◌, ◌++◌, length, inl, inr, arith}
use Rattle.std.specs.Prelude.{Option, None, Some}
use Rattle.pattern_search.specs.Words.{Includes, Rising, Before, WordSearch, IsWord, word_ends, word_goes, ended_word, led_words, words_of, WordsTell}
use Rattle.pattern_search.proofs.Inclusion.{among_left, among_right, among_either, among_flat, among_unflat, among_map, among_unmap, rising_append, rising_flat, rising_map}

module _ {D P : Type 0} (s : WordSearch D P) where
  abbrev block : ℕ → D → P → List (List P)
  block n d q = ended_word (s.last d q) q ++ led_words (words_of s n) q (s.next d q)

  -- what is spelled is a word
  end_sound : (d : D) (q : P) (w : List P) (b : Bool) → Includes (s.letters d) q → s.last d q ≡ b → Includes (ended_word b q) w → IsWord s d w
  end_sound d q w true there is (inl same) = subst (IsWord s d) same (word_ends d q there is)
  end_sound d q w true there is (inr h) = absurd h
  end_sound d q w false there is h = absurd h

  led_sound : (n : ℕ) (d : D) (q : P) (w : List P) (o : Option D) → Includes (s.letters d) q → s.next d q ≡ o → ((e : D) (v : List P) → Includes (words_of s n e) v → IsWord s e v) → Includes (led_words (words_of s n) q o) w → IsWord s d w
  led_sound n d q w None there is rest h = absurd h
  led_sound n d q w (Some e) there is rest h =
      let found : (v : List P) × (Includes (words_of s n e) v × ((q ∷ v) ≡ w)) = among_unmap (λ v. q ∷ v) (words_of s n e) w h in
      subst (IsWord s d) found.1.1 (word_goes d e q found.0 there is (rest e found.0 found.1.0))

  pub sound : (n : ℕ) (d : D) (w : List P) → Includes (words_of s n d) w → IsWord s d w
  sound zero d w h = absurd h
  sound (suc n) d w h =
      let found : (q : P) × (Includes (s.letters d) q × Includes (block n d q) w) = among_unflat (block n d) (s.letters d) w h in
      elim (among_either (ended_word (s.last d found.0) found.0) (led_words (words_of s n) found.0 (s.next d found.0)) w found.1.1) [
        | inl k ↦ end_sound d found.0 w (s.last d found.0) found.1.0 refl k
        | inr k ↦ led_sound n d found.0 w (s.next d found.0) found.1.0 refl (λ e v inside. sound n e v inside) k
      ]

  led_short : (n : ℕ) (q : P) (w : List P) (o : Option D) → ((e : D) (v : List P) → Includes (words_of s n e) v → length v ≤ n) → Includes (led_words (words_of s n) q o) w → length w ≤ suc n
  led_short n q w None rest h = absurd h
  led_short n q w (Some e) rest h =
      let found : (v : List P) × (Includes (words_of s n e) v × ((q ∷ v) ≡ w)) = among_unmap (λ v. q ∷ v) (words_of s n e) w h in
      let low : length found.0 ≤ n = rest e found.0 found.1.0 in
      subst (λ v. length v ≤ suc n) found.1.1 (omega (arith, low))

  end_short : (n : ℕ) (q : P) (w : List P) (b : Bool) → Includes (ended_word b q) w → length w ≤ suc n
  end_short n q w true (inl same) = subst (λ v. length v ≤ suc n) same (omega arith)
  end_short n q w true (inr h) = absurd h
  end_short n q w false h = absurd h

  pub short : (n : ℕ) (d : D) (w : List P) → Includes (words_of s n d) w → length w ≤ n
  short zero d w h = absurd h
  short (suc n) d w h =
      let found : (q : P) × (Includes (s.letters d) q × Includes (block n d q) w) = among_unflat (block n d) (s.letters d) w h in
      elim (among_either (ended_word (s.last d found.0) found.0) (led_words (words_of s n) found.0 (s.next d found.0)) w found.1.1) [
        | inl k ↦ end_short n found.0 w (s.last d found.0) k
        | inr k ↦ led_short n found.0 w (s.next d found.0) (λ e v inside. short n e v inside) k
      ]

  -- each word that isn't too long is spelled
  pub complete : (n : ℕ) (d : D) (w : List P) → IsWord s d w → length w ≤ n → Includes (words_of s n d) w
  complete zero _ _ (word_ends d q there is) h = absurd (omega (arith, h))
  complete zero _ _ (word_goes d e q rest there is after) h = absurd (omega (arith, h))
  complete (suc n) _ _ (word_ends d q there is) h =
      among_flat (block n d) (s.letters d) q (q ∷ []) there (among_left (ended_word (s.last d q) q) (led_words (words_of s n) q (s.next d q)) (q ∷ []) (subst (λ b. Includes (ended_word b q) (q ∷ [])) (sym is) (inl refl)))
  complete (suc n) _ _ (word_goes d e q rest there is after) h =
      among_flat (block n d) (s.letters d) q (q ∷ rest) there (among_right (ended_word (s.last d q) q) (led_words (words_of s n) q (s.next d q)) (q ∷ rest) (subst (λ o. Includes (led_words (words_of s n) q o) (q ∷ rest)) (sym is) (among_map (λ v. q ∷ v) (words_of s n e) rest (complete n e rest after (omega (arith, h))))))

  -- a word has a letter, and those of a block begin with its letter
  Heads : P → List P → Type 0
  Heads q w = (rest : List P) × (w ≡ q ∷ rest)

  word_long : (d : D) (w : List P) → IsWord s d w → (q : P) × ((rest : List P) × (w ≡ q ∷ rest))
  word_long _ _ (word_ends d q there is) = (q, ([], refl))
  word_long _ _ (word_goes d e q rest there is after) = (q, (rest, refl))

  end_heads : (q : P) (w : List P) (b : Bool) → Includes (ended_word b q) w → w ≡ q ∷ []
  end_heads q w true (inl same) = sym same
  end_heads q w true (inr h) = absurd h
  end_heads q w false h = absurd h

  led_heads : (n : ℕ) (q : P) (w : List P) (o : Option D) → Includes (led_words (words_of s n) q o) w → (e : D) × ((v : List P) × (Includes (words_of s n e) v × (w ≡ q ∷ v)))
  led_heads n q w None h = absurd h
  led_heads n q w (Some e) h =
      let found : (v : List P) × (Includes (words_of s n e) v × ((q ∷ v) ≡ w)) = among_unmap (λ v. q ∷ v) (words_of s n e) w h in
      (e, (found.0, (found.1.0, sym found.1.1)))

  block_heads : (n : ℕ) (d : D) (q : P) (w : List P) → Includes (block n d q) w → (rest : List P) × (w ≡ q ∷ rest)
  block_heads n d q w h = elim (among_either (ended_word (s.last d q) q) (led_words (words_of s n) q (s.next d q)) w h) [
    | inl k ↦ ([], end_heads q w (s.last d q) k)
    | inr k ↦ (let found = led_heads n q w (s.next d q) k in (found.1.0, found.1.1.1))
  ]

  module _ (Less : P → P → Type 0) (letters_rise : (d : D) → Rising Less (s.letters d)) where
    end_rises : (q : P) (b : Bool) → Rising (Before Less) (ended_word b q)
    end_rises q true = (λ f h. absurd h, tt)
    end_rises q false = tt

    led_rises : (n : ℕ) (q : P) (o : Option D) → ((e : D) → Rising (Before Less) (words_of s n e)) → Rising (Before Less) (led_words (words_of s n) q o)
    led_rises n q None rest = tt
    led_rises n q (Some e) rest = rising_map (Before Less) (Before Less) (λ v. q ∷ v) (words_of s n e) (rest e) (λ v w low. inr (refl, low))

    end_first : (n : ℕ) (d : D) (q : P) (v w : List P) → Includes (ended_word (s.last d q) q) v → Includes (led_words (words_of s n) q (s.next d q)) w → Before Less v w
    end_first n d q v w h k =
        let found : (e : D) × ((u : List P) × (Includes (words_of s n e) u × (w ≡ q ∷ u))) = led_heads n q w (s.next d q) k in
        let long : (p : P) × ((rest : List P) × (found.1.0 ≡ p ∷ rest)) = word_long found.0 found.1.0 (sound n found.0 found.1.0 found.1.1.0) in
        let w_is : w ≡ q ∷ (long.0 ∷ long.1.0) = found.1.1.1 ∙ ap (λ u. q ∷ u) long.1.1 in
        subst (λ u. Before Less u w) (sym (end_heads q v (s.last d q) h)) (subst (Before Less (q ∷ [])) (sym w_is) (inr (refl, tt)))

    pub rises : (n : ℕ) (d : D) → Rising (Before Less) (words_of s n d)
    rises zero d = tt
    rises (suc n) d =
        rising_flat Less (Before Less) (block n d) (s.letters d) (letters_rise d) (λ q. rising_append (Before Less) (ended_word (s.last d q) q) (led_words (words_of s n) q (s.next d q)) (end_rises q (s.last d q)) (led_rises n q (s.next d q) (λ e. rises n e)) (end_first n d q)) (λ p q low v w h k.
        let one : (rest : List P) × (v ≡ p ∷ rest) = block_heads n d p v h in
        let other : (rest : List P) × (w ≡ q ∷ rest) = block_heads n d q w k in
        subst (λ u. Before Less u w) (sym one.1) (subst (Before Less (p ∷ one.0)) (sym other.1) (inl low)))

pub tell : {D P : Type 0} (s : WordSearch D P) (Less : P → P → Type 0) → WordsTell s Less
tell s Less letters_rise n d =
    (λ w. (λ h. (sound s n d w h, short s n d w h), λ both. complete s n d w both.0 both.1), rises s Less letters_rise n d)
