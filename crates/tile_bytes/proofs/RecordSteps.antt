-- A record of four words at the front, read or refused.
use Rattle.std.proofs.Common.{◌≡◌, ℕ, ◌≤◌, Bool, true, false, ltb, List, length, drop, Option, Some, Ok, Err, refl}
use Rattle.std.proofs.lemmas.Bool.{le-ltb}
use Rattle.section_grammar.specs.WordBytes.{words_in}
use Rattle.section_grammar.specs.Answers.{Check, place_of}
use Rattle.tile_bytes.specs.Items.{record_at, record_found}

module _ {R : Type 0} (read : List ℕ → Option R) (passes : List R → R → Bool) (check end : ℕ) (before : List R) (rest : List ℕ) where
  pub record_read : (r : R) → 32 ≤ length rest → read (words_in 4 rest) ≡ Some r → passes before r ≡ true → record_at read passes check end before rest ≡ Ok (r, drop 32 rest)
  unfolding record_at record_found
  record_read r long is pass =
      let short : ltb (length rest) 32 ≡ false = le-ltb _ _ long in
      rw (short, is, pass) refl

  pub record_refused : (r : R) (at : ℕ) → 32 ≤ length rest → read (words_in 4 rest) ≡ Some r → passes before r ≡ false → at ≡ place_of end rest → record_at read passes check end before rest ≡ Err (Check check at)
  unfolding record_at record_found
  record_refused r at long is pass here =
      let short : ltb (length rest) 32 ≡ false = le-ltb _ _ long in
      rw (short, is, pass, here) refl
