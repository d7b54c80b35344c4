-- reads of words after a write
use Rattle.std.proofs.Common.{◌≡◌, ℕ, ◌<◌, ◌≢◌, List, length, ap, sym, ◌∙◌, eqb, eq-eqb, ne_eqb, arith}
use Rattle.std.specs.Prelude.{slice_index, slice_set}
use Rattle.std.proofs.lemmas.List.{get_or-set_same, get_or-set_other, set-get_or, get_or_past}
use mathlib.Core.Logic.{dite}
use native.Mathlib.Decide.{dec_lt}
use prog.Atomic.{either}

pub read-here : (ws : List ℕ) (a n : ℕ) → a < length ws → slice_index (slice_set ws a n) a ≡ n
read-here ws a n h = get_or-set_same ws a n 0 h

pub read-else : (ws : List ℕ) (a b n : ℕ) → b ≢ a → slice_index (slice_set ws a n) b ≡ slice_index ws b
read-else ws a b n ne = get_or-set_other ws a b n 0 ne

-- the number that a word has is written to it
pub write-same : (ws : List ℕ) (a n : ℕ) → slice_index ws a ≡ n → slice_set ws a n ≡ ws
write-same ws a n e = ap (λ m. slice_set ws a m) (sym e) ∙ set-get_or ws a 0

-- a word that isn't 0 is there
pub is-there : (ws : List ℕ) (a : ℕ) → 0 < slice_index ws a → a < length ws
is-there ws a some = dite (dec_lt a (length ws)) (λ h. h) (λ ne. absurd (omega (arith, get_or_past ws a 0 (omega arith))))

-- the two cases of an exchange
pub either-hit : (n old new : ℕ) → n ≡ old → either (eqb n old) new n ≡ new
either-hit n old new e = ap (λ b. either b new n) (eq-eqb n old e)

pub either-miss : (n old new : ℕ) → n ≢ old → either (eqb n old) new n ≡ n
either-miss n old new ne = ap (λ b. either b new n) (ne_eqb n old ne)
