-- The first bytes of a triple, and those of a Blob.
use Rattle.std.proofs.Common.{◌≡◌, ℕ, ◌+◌, ◌<◌, ◌≤◌, eqb, ltb, cond, false, List, ◌++◌, length, take, drop, sym, ap, ◌∙◌, arith}
use Rattle.std.proofs.lemmas.Bool.{lt-ltb}
use Rattle.std.proofs.lemmas.Bool.Decides.{nat_tests}
use Rattle.std.proofs.lemmas.List.{take_all, take_at, drop-drop, length-take, take-append-drop}
use Rattle.std.specs.Int.{w32, from_be_bytes}
use Rattle.pbf_blobs.specs.declared.fault.PbfFault.TheVariants as faults
use Rattle.pbf_blobs.specs.Next.{Ends, Fails, next_of, measured, framed}

-- how many bytes were read is how many there were
pub count-read : (count room : ℕ) (buf rest : List ℕ) → count ≤ length buf → length buf ≡ room → take count buf ≡ take (length buf) rest → (count < room → length rest ≡ count) × (count ≡ room → room ≤ length rest)
count-read count room buf rest most size e =
    let same : length (take count buf) ≡ length (take (length buf) rest) = ap length e in (
      λ short. omega (arith, same, length-take count buf, length-take (length buf) rest),
      λ full. omega (arith, same, length-take count buf, length-take (length buf) rest),
    )

-- a whole buffer is the next bytes
pub whole-read : (room : ℕ) (buf rest : List ℕ) → length buf ≡ room → take room buf ≡ take (length buf) rest → take room rest ≡ buf
whole-read room buf rest size e =
    ap (λ n. take n rest) (sym size) ∙ sym e ∙ take_all room buf (omega arith)

-- and the bytes behind them are what is left
pub joined : (room place : ℕ) (buf input : List ℕ) → length buf ≡ room → take room buf ≡ take (length buf) (drop place input) → buf ++ drop (place + room) input ≡ drop place input
joined room place buf input size e =
    ap (λ xs. xs ++ drop (place + room) input) (sym (whole-read room buf (drop place input) size e))
    ∙ ap (λ xs. take room (drop place input) ++ xs) (sym (drop-drop room place input))
    ∙ take-append-drop room (drop place input)

-- the same, of a front that was read into the front of a longer buffer
pub front-joined : (count room place : ℕ) (buf others input : List ℕ) → length buf ≡ room → count ≡ room → take count buf ≡ take (length buf) (drop place input)
    → take room (buf ++ others) ++ drop (place + count) input ≡ drop place input
front-joined count room place buf others input size whole e =
    ap (λ xs. xs ++ drop (place + count) input) (take_at buf others room size)
    ∙ ap (λ n. buf ++ drop (place + n) input) whole
    ∙ joined room place buf input size (ap (λ n. take n buf) (sym whole) ∙ e)

-- ---- the length

pub next_of-ends : (at : ℕ) (rest : List ℕ) → length rest ≡ 0 → next_of at rest ≡ Ends
unfolding next_of
next_of-ends at rest none =
    ap (λ b. cond b Ends (cond (ltb (length rest) 4) (Fails (faults.Truncated at)) (measured at (from_be_bytes w32 (take 4 rest)) (drop 4 rest)))) (ap (λ n. eqb n 0) none)

pub next_of-cut : (at : ℕ) (rest : List ℕ) → 0 < length rest → length rest < 4 → next_of at rest ≡ Fails (faults.Truncated at)
unfolding next_of
next_of-cut at rest some few =
    let not_none : eqb (length rest) 0 ≡ false = grind (arith, nat_tests) in
    ap (λ b. cond b Ends (cond (ltb (length rest) 4) (Fails (faults.Truncated at)) (measured at (from_be_bytes w32 (take 4 rest)) (drop 4 rest)))) not_none
    ∙ ap (λ b. cond b (Fails (faults.Truncated at)) (measured at (from_be_bytes w32 (take 4 rest)) (drop 4 rest))) (lt-ltb (length rest) 4 few)

pub next_of-measured : (at : ℕ) (rest : List ℕ) → 4 ≤ length rest → next_of at rest ≡ measured at (from_be_bytes w32 (take 4 rest)) (drop 4 rest)
unfolding next_of
next_of-measured at rest four =
    let not_none : eqb (length rest) 0 ≡ false = grind (arith, nat_tests) in
    let not_few : ltb (length rest) 4 ≡ false = grind (arith, nat_tests) in
    ap (λ b. cond b Ends (cond (ltb (length rest) 4) (Fails (faults.Truncated at)) (measured at (from_be_bytes w32 (take 4 rest)) (drop 4 rest)))) not_none
    ∙ ap (λ b. cond b (Fails (faults.Truncated at)) (measured at (from_be_bytes w32 (take 4 rest)) (drop 4 rest))) not_few

pub measured-long : (at len : ℕ) (rest : List ℕ) → 65536 ≤ len → measured at len rest ≡ Fails (faults.HeaderTooLong at len)
measured-long at len rest long =
    let off : ltb len 65536 ≡ false = grind (arith, nat_tests) in
    ap (λ b. cond b (framed at len rest) (Fails (faults.HeaderTooLong at len))) off

pub measured-framed : (at len : ℕ) (rest : List ℕ) → len < 65536 → measured at len rest ≡ framed at len rest
measured-framed at len rest short = ap (λ b. cond b (framed at len rest) (Fails (faults.HeaderTooLong at len))) (lt-ltb len 65536 short)

-- the length that was read, and the bytes behind it
pub next_of-framed : (at place count len : ℕ) (buf input : List ℕ) → length buf ≡ 4 → count ≡ 4 → take count buf ≡ take (length buf) (drop place input) → len ≡ from_be_bytes w32 buf → len < 65536
    → next_of at (drop place input) ≡ framed at len (drop (place + count) input)
next_of-framed at place count len buf input size whole e is short =
    let filled : take 4 buf ≡ take (length buf) (drop place input) = ap (λ n. take n buf) (sym whole) ∙ e in
    let four : 4 ≤ length (drop place input) = (count-read count 4 buf (drop place input) (omega arith) size e).1 whole in
    next_of-measured at (drop place input) four
    ∙ ap (λ xs. measured at (from_be_bytes w32 xs) (drop 4 (drop place input))) (whole-read 4 buf (drop place input) size filled)
    ∙ ap (λ n. measured at n (drop 4 (drop place input))) (sym is)
    ∙ measured-framed at len (drop 4 (drop place input)) short
    ∙ ap (framed at len) (drop-drop 4 place input ∙ ap (λ n. drop (place + n) input) (sym whole))

pub next_of-long : (at place count len : ℕ) (buf input : List ℕ) → length buf ≡ 4 → count ≡ 4 → take count buf ≡ take (length buf) (drop place input) → len ≡ from_be_bytes w32 buf → 65536 ≤ len
    → next_of at (drop place input) ≡ Fails (faults.HeaderTooLong at len)
next_of-long at place count len buf input size whole e is long =
    let filled : take 4 buf ≡ take (length buf) (drop place input) = ap (λ n. take n buf) (sym whole) ∙ e in
    let four : 4 ≤ length (drop place input) = (count-read count 4 buf (drop place input) (omega arith) size e).1 whole in
    next_of-measured at (drop place input) four
    ∙ ap (λ xs. measured at (from_be_bytes w32 xs) (drop 4 (drop place input))) (whole-read 4 buf (drop place input) size filled)
    ∙ ap (λ n. measured at n (drop 4 (drop place input))) (sym is)
    ∙ measured-long at len (drop 4 (drop place input)) long
