-- Numbers that are read are those that were written, and what is read is spelled so.
use Rattle.std.proofs.Common.{◌≡◌, ℕ, zero, suc, ◌+◌, ◌*◌, ◌%◌, ◌^◌, ◌<◌, ◌≤◌, List, [], ◌∷◌, ◌++◌, length, get_or, take, drop, refl, sym, ap, ◌∙◌, append_assoc, arith}
use Rattle.std.specs.Int.{w32, w64, to_le_bytes, from_le_bytes}
use Rattle.std.proofs.lemmas.List.{take_at, drop_at, drop-drop, take-append-drop, length-append, length-take, length-drop}
use Rattle.std.proofs.lemmas.List.Concat.{flat_map-cons}
use Rattle.std.proofs.lemmas.Nat.{le_bytes_4, le_bytes_8, from_le_bytes-to_le_bytes_4, from_le_bytes-to_le_bytes_8}
use Rattle.section_grammar.specs.WordBytes.{IsByteList, word_in, words_in, word_bytes, words_bytes, half_in, half_bytes, halves_bytes}
use Rattle.section_grammar.proofs.ByteLists.{IsByteList-drop, IsByteList-take}

pub word_takes : (bytes : List ℕ) → IsByteList bytes → 8 ≤ length bytes → word_bytes (word_in bytes) ++ drop 8 bytes ≡ bytes
unfolding word_bytes word_in
word_takes bytes fits le =
    let t : to_le_bytes w64 (from_le_bytes w64 (take 8 bytes)) ≡ take 8 bytes = le_bytes_8 (take 8 bytes) (from_le_bytes w64 (take 8 bytes)) (omega (arith, length-take 8 bytes)) (IsByteList-take 8 bytes fits) refl in
    ap (λ (x : List ℕ). x ++ drop 8 bytes) t ∙ take-append-drop 8 bytes

pub word_below : (bytes : List ℕ) → IsByteList bytes → word_in bytes < 2 ^ 64
unfolding word_in
word_below bytes fits = let f = IsByteList-take 8 bytes fits in omega (arith, f 0, f 1, f 2, f 3, f 4, f 5, f 6, f 7)

pub word_again : (n : ℕ) (rest : List ℕ) → n < 2 ^ 64 → word_in (word_bytes n ++ rest) ≡ n
unfolding word_in word_bytes
word_again n rest lt = ap (from_le_bytes w64) (take_at (to_le_bytes w64 n) rest 8 refl) ∙ from_le_bytes-to_le_bytes_8 n lt

pub word_after : (n : ℕ) (rest : List ℕ) → drop 8 (word_bytes n ++ rest) ≡ rest
unfolding word_bytes
word_after n rest = drop_at (to_le_bytes w64 n) rest 8 refl

pub word_length : (n : ℕ) → length (word_bytes n) ≡ 8
unfolding word_bytes
word_length n = refl

pub words_take : (n : ℕ) (bytes : List ℕ) → IsByteList bytes → n * 8 ≤ length bytes → words_bytes (words_in n bytes) ++ drop (n * 8) bytes ≡ bytes
words_take zero bytes fits le = refl
words_take (suc n) bytes fits le =
    let d : drop (suc n * 8) bytes ≡ drop (n * 8) (drop 8 bytes) = (let k : suc n * 8 ≡ 8 + n * 8 = omega arith in ap (λ x. drop x bytes) k) ∙ sym (drop-drop (n * 8) 8 bytes) in
    let more = words_take n (drop 8 bytes) (IsByteList-drop 8 bytes fits) (omega (arith, length-drop 8 bytes)) in
    let first = word_takes bytes fits (omega arith) in
    ap (λ x. x ++ drop (suc n * 8) bytes) (flat_map-cons word_bytes (word_in bytes) (words_in n (drop 8 bytes)))
    ∙ append_assoc (word_bytes (word_in bytes)) (words_bytes (words_in n (drop 8 bytes))) (drop (suc n * 8) bytes)
    ∙ ap (λ x. word_bytes (word_in bytes) ++ (words_bytes (words_in n (drop 8 bytes)) ++ x)) d
    ∙ ap (λ x. word_bytes (word_in bytes) ++ x) more ∙ first

pub words_below : (n : ℕ) (bytes : List ℕ) → IsByteList bytes → (i : ℕ) → get_or (words_in n bytes) i 0 < 2 ^ 64
words_below zero bytes fits i = omega arith
words_below (suc n) bytes fits zero = word_below bytes fits
words_below (suc n) bytes fits (suc i) = words_below n (drop 8 bytes) (IsByteList-drop 8 bytes fits) i

pub words_again : (ws : List ℕ) (rest : List ℕ) → ((i : ℕ) → get_or ws i 0 < 2 ^ 64) → words_in (length ws) (words_bytes ws ++ rest) ≡ ws
words_again [] rest fits = refl
words_again (w ∷ ws) rest fits =
    let regrouped : words_bytes (w ∷ ws) ++ rest ≡ word_bytes w ++ (words_bytes ws ++ rest) = ap (λ t. t ++ rest) (flat_map-cons word_bytes w ws) ∙ append_assoc (word_bytes w) (words_bytes ws) rest in
    let more = words_again ws rest (λ i. fits (suc i)) in
    ap (words_in (suc (length ws))) regrouped
    ∙ rw (word_again w (words_bytes ws ++ rest) (fits 0), word_after w (words_bytes ws ++ rest), more) refl

pub words_bytes-length : (ws : List ℕ) → length (words_bytes ws) ≡ length ws * 8
words_bytes-length [] = refl
words_bytes-length (w ∷ ws) = ap length (flat_map-cons word_bytes w ws) ∙ omega (arith, length-append (word_bytes w) (words_bytes ws), word_length w, words_bytes-length ws)

pub four_words_bytes : (a b c d : ℕ) → words_bytes (a ∷ b ∷ c ∷ d ∷ []) ≡ word_bytes a ++ (word_bytes b ++ (word_bytes c ++ (word_bytes d ++ [])))
four_words_bytes a b c d = rw (flat_map-cons word_bytes a (b ∷ c ∷ d ∷ []), flat_map-cons word_bytes b (c ∷ d ∷ []), flat_map-cons word_bytes c (d ∷ []), flat_map-cons word_bytes d []) refl

-- ---- halves

pub half_takes : (bytes : List ℕ) → IsByteList bytes → 4 ≤ length bytes → half_bytes (half_in bytes) ++ drop 4 bytes ≡ bytes
unfolding half_bytes half_in
half_takes bytes fits le =
    let t : to_le_bytes w32 (from_le_bytes w32 (take 4 bytes)) ≡ take 4 bytes = le_bytes_4 (take 4 bytes) (from_le_bytes w32 (take 4 bytes)) (omega (arith, length-take 4 bytes)) (IsByteList-take 4 bytes fits) refl in
    ap (λ (x : List ℕ). x ++ drop 4 bytes) t ∙ take-append-drop 4 bytes

pub half_below : (bytes : List ℕ) → IsByteList bytes → half_in bytes < 2 ^ 32
unfolding half_in
half_below bytes fits = let f = IsByteList-take 4 bytes fits in omega (arith, f 0, f 1, f 2, f 3)

pub half_again : (n : ℕ) (rest : List ℕ) → n < 2 ^ 32 → half_in (half_bytes n ++ rest) ≡ n
unfolding half_in half_bytes
half_again n rest lt = ap (from_le_bytes w32) (take_at (to_le_bytes w32 n) rest 4 refl) ∙ from_le_bytes-to_le_bytes_4 n lt

pub half_after : (n : ℕ) (rest : List ℕ) → drop 4 (half_bytes n ++ rest) ≡ rest
unfolding half_bytes
half_after n rest = drop_at (to_le_bytes w32 n) rest 4 refl

pub half_length : (n : ℕ) → length (half_bytes n) ≡ 4
unfolding half_bytes
half_length n = refl

pub halves_bytes-length : (hs : List ℕ) → length (halves_bytes hs) ≡ length hs * 4
halves_bytes-length [] = refl
halves_bytes-length (h ∷ hs) = ap length (flat_map-cons half_bytes h hs) ∙ omega (arith, length-append (half_bytes h) (halves_bytes hs), half_length h, halves_bytes-length hs)

four_same : {a a' b b' c c' d d' : ℕ} → a ≡ a' → b ≡ b' → c ≡ c' → d ≡ d' → ◌≡◌ {A = List ℕ} (a ∷ b ∷ c ∷ d ∷ []) (a' ∷ b' ∷ c' ∷ d' ∷ [])
four_same e0 e1 e2 e3 = cc

-- a half has the lowest four bytes of a number
pub low_half_bytes : (n : ℕ) → half_bytes (n % 2 ^ 32) ≡ half_bytes n
unfolding half_bytes
low_half_bytes n = four_same (omega arith) (omega arith) (omega arith) (omega arith)
