-- No blob ends past the input, and nothing is found only at its end.
use Rattle.std.proofs.Common.{◌≡◌, ℕ, ◌+◌, ◌<◌, ◌≤◌, ltb, cond, true, false, List, length, take, drop, sym, ap, ◌∙◌, subst, arith, Result, Ok, Err, inl, inr, length-drop}
use Rattle.std.specs.Int.{w32, from_be_bytes}
use Rattle.std.proofs.lemmas.Bool.{lt-ltb, cases_lt}
use Rattle.std.proofs.lemmas.Bool.Decides.{nat_tests}
use Rattle.pbf_blobs.specs.declared.blob.Blob.{Blob}
use Rattle.pbf_blobs.specs.declared.blob.Head.{Head}
use Rattle.pbf_blobs.specs.declared.fault.PbfFault.{PbfFault}
use Rattle.pbf_blobs.specs.declared.fault.PbfFault.TheVariants as faults
use Rattle.pbf_blobs.specs.Next.{Outcome, Ends, Gives, Fails, header_of, paid, raw_of, bodied, sized, headed, framed, measured, next_of}
use Rattle.pbf_blobs.proofs.Starts.{next_of-ends, next_of-cut, next_of-measured}
use Rattle.pbf_blobs.proofs.Bodied.{bodied-cut, bodied-whole}

-- a blob that ends at this place or before it, or a fault
abbrev GivesWithin : ℕ → Outcome → Type 0
GivesWithin limit Ends = ⊥
GivesWithin limit (Gives blob) = blob.end ≤ limit
GivesWithin limit (Fails fault) = Unit {0}

paid-within : (limit : ℕ) (head : Head) (found : Result (ℕ × List ℕ) PbfFault) → head.body_at + head.size ≤ limit → GivesWithin limit (paid head found)
paid-within limit head (Err fault) fits = tt
paid-within limit head (Ok raw) fits = fits

bodied-within : (limit : ℕ) (head : Head) (rest : List ℕ) → head.body_at + length rest ≤ limit → GivesWithin limit (bodied head rest)
bodied-within limit head rest fits =
    elim (cases_lt (length rest) head.size) [
      | inl short ↦ subst (λ (o : Outcome). GivesWithin limit o) (sym (bodied-cut head rest short)) tt
      | inr whole ↦
          subst (λ (o : Outcome). GivesWithin limit o) (sym (bodied-whole head rest whole))
          (paid-within limit head (raw_of head (take head.size rest)) (omega arith))
    ]

sized-within : (limit : ℕ) (head : Head) (rest : List ℕ) → head.body_at + length rest ≤ limit → GivesWithin limit (sized head rest)
sized-within limit head rest fits =
    elim (ltb 33554496 head.size) as (λ b. GivesWithin limit (cond b (Fails (faults.BlobTooLong head.at head.size)) (cond (ltb 536870912 (head.body_at + head.size)) (Fails (faults.TooLarge (head.body_at + head.size))) (bodied head rest)))) [
      | true ↦ tt
      | false ↦ elim (ltb 536870912 (head.body_at + head.size)) as (λ b. GivesWithin limit (cond b (Fails (faults.TooLarge (head.body_at + head.size))) (bodied head rest))) [
        | true ↦ tt
        | false ↦ bodied-within limit head rest fits
      ]
    ]

headed-within : (limit at body_at : ℕ) (found : Result (List ℕ × ℕ) PbfFault) (rest : List ℕ) → body_at + length rest ≤ limit → GivesWithin limit (headed at body_at found rest)
headed-within limit at body_at (Err fault) rest fits = tt
headed-within limit at body_at (Ok x) rest fits = sized-within limit (record { at = at; body_at = body_at; kind = x.0; size = x.1 }) rest fits

framed-within : (limit at len : ℕ) (rest : List ℕ) → at + 4 + length rest ≤ limit → GivesWithin limit (framed at len rest)
framed-within limit at len rest fits =
    let found = header_of (at + 4) (take len rest) in
    elim (cases_lt (length rest) len) [
      | inl short ↦
          let cut : framed at len rest ≡ Fails (faults.Truncated (at + 4)) = ap (λ b. cond b (Fails (faults.Truncated (at + 4))) (headed at (at + 4 + len) found (drop len rest))) (lt-ltb (length rest) len short) in
          subst (λ (o : Outcome). GivesWithin limit o) (sym cut) tt
      | inr whole ↦
          let there : ltb (length rest) len ≡ false = grind (arith, nat_tests) in
          let seen : framed at len rest ≡ headed at (at + 4 + len) found (drop len rest) = ap (λ b. cond b (Fails (faults.Truncated (at + 4))) (headed at (at + 4 + len) found (drop len rest))) there in
          subst (λ (o : Outcome). GivesWithin limit o) (sym seen)
          (headed-within limit at (at + 4 + len) found (drop len rest) (omega (arith, length-drop len rest)))
    ]

measured-within : (limit at len : ℕ) (rest : List ℕ) → at + 4 + length rest ≤ limit → GivesWithin limit (measured at len rest)
measured-within limit at len rest fits =
    elim (ltb len 65536) as (λ b. GivesWithin limit (cond b (framed at len rest) (Fails (faults.HeaderTooLong at len)))) [
      | true ↦ framed-within limit at len rest fits
      | false ↦ tt
    ]

-- where something is left
next_of-within : (at : ℕ) (rest : List ℕ) → 0 < length rest → GivesWithin (at + length rest) (next_of at rest)
next_of-within at rest some =
    elim (cases_lt (length rest) 4) [
      | inl few ↦ subst (λ (o : Outcome). GivesWithin (at + length rest) o) (sym (next_of-cut at rest some few)) tt
      | inr four ↦
          subst (λ (o : Outcome). GivesWithin (at + length rest) o) (sym (next_of-measured at rest four))
          (measured-within (at + length rest) at (from_be_bytes w32 (take 4 rest)) (drop 4 rest) (omega (arith, length-drop 4 rest)))
    ]

-- ---- an input that is read at the place at

-- nothing is found only at its end
pub ends-at_end : (input : List ℕ) (at : ℕ) → next_of at (drop at input) ≡ Ends → length input ≤ at
ends-at_end input at e =
    elim (cases_lt at (length input)) [
      | inl some ↦ absurd (subst (λ (o : Outcome). GivesWithin (at + length (drop at input)) o) e (next_of-within at (drop at input) (omega (arith, length-drop at input))))
      | inr end ↦ end
    ]

-- no blob ends past it
pub gives-within : (input : List ℕ) (at : ℕ) (blob : Blob) → next_of at (drop at input) ≡ Gives blob → blob.end ≤ length input
gives-within input at blob e =
    elim (cases_lt at (length input)) [
      | inl some ↦
          let fits : blob.end ≤ at + length (drop at input) = subst (λ (o : Outcome). GivesWithin (at + length (drop at input)) o) e (next_of-within at (drop at input) (omega (arith, length-drop at input))) in
          omega (arith, fits, length-drop at input)
      | inr end ↦
          let none : Ends ≡ Gives blob = sym (next_of-ends at (drop at input) (omega (arith, length-drop at input))) ∙ e in
          cc
    ]
