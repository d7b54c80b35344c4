-- A blob ends behind the place where its triple begins, and within the largest input.
use Rattle.std.proofs.Common.{◌≡◌, ℕ, ◌+◌, ◌≤◌, eqb, ltb, cond, List, length, take, drop, subst, arith, Result, Ok, Err}
use Rattle.std.specs.Int.{w32, from_be_bytes}
use Rattle.std.proofs.lemmas.Bool.{ltb-false, cond_both}
use Rattle.pbf_blobs.specs.declared.blob.Blob.{Blob}
use Rattle.pbf_blobs.specs.declared.blob.Head.{Head}
use Rattle.pbf_blobs.specs.declared.fault.PbfFault.{PbfFault}
use Rattle.pbf_blobs.specs.declared.fault.PbfFault.TheVariants as faults
use Rattle.pbf_blobs.specs.Next.{Outcome, Ends, Gives, Fails, header_of, paid, raw_of, bodied, sized, headed, framed, measured, next_of}

-- a blob that ends there, the end of the input, or a fault
abbrev GivesAhead : ℕ → Outcome → Type 0
GivesAhead at Ends = Unit {0}
GivesAhead at (Gives blob) = (at + 4 ≤ blob.end) × (blob.end ≤ 536870912)
GivesAhead at (Fails fault) = Unit {0}

paid-ahead : (at : ℕ) (head : Head) (found : Result (ℕ × List ℕ) PbfFault) → at + 4 ≤ head.body_at → head.body_at + head.size ≤ 536870912 → GivesAhead at (paid head found)
paid-ahead at head (Err fault) ahead fits = tt
paid-ahead at head (Ok raw) ahead fits = (omega arith, fits)

bodied-ahead : (at : ℕ) (head : Head) (rest : List ℕ) → at + 4 ≤ head.body_at → head.body_at + head.size ≤ 536870912 → GivesAhead at (bodied head rest)
bodied-ahead at head rest ahead fits =
    let found = raw_of head (take head.size rest) in
    cond_both (ltb (length rest) head.size) (Fails (faults.Truncated head.body_at)) (paid head found) (λ o. GivesAhead at o) (λ e. tt) (λ e. paid-ahead at head found ahead fits)

sized-ahead : (at : ℕ) (head : Head) (rest : List ℕ) → at + 4 ≤ head.body_at → GivesAhead at (sized head rest)
sized-ahead at head rest ahead =
    let end = head.body_at + head.size in
    let far = Fails (faults.TooLarge end) in
    cond_both (ltb 33554496 head.size) (Fails (faults.BlobTooLong head.at head.size)) (cond (ltb 536870912 end) far (bodied head rest)) (λ o. GivesAhead at o) (λ e. tt)
    (λ e. cond_both (ltb 536870912 end) far (bodied head rest) (λ o. GivesAhead at o) (λ e. tt) (λ e. bodied-ahead at head rest ahead (ltb-false 536870912 end e)))

headed-ahead : (at body_at : ℕ) (found : Result (List ℕ × ℕ) PbfFault) (rest : List ℕ) → at + 4 ≤ body_at → GivesAhead at (headed at body_at found rest)
headed-ahead at body_at (Err fault) rest ahead = tt
headed-ahead at body_at (Ok x) rest ahead = sized-ahead at (record { at = at; body_at = body_at; kind = x.0; size = x.1 }) rest ahead

framed-ahead : (at len : ℕ) (rest : List ℕ) → GivesAhead at (framed at len rest)
framed-ahead at len rest =
    let found = header_of (at + 4) (take len rest) in
    cond_both (ltb (length rest) len) (Fails (faults.Truncated (at + 4))) (headed at (at + 4 + len) found (drop len rest)) (λ o. GivesAhead at o) (λ e. tt)
    (λ e. headed-ahead at (at + 4 + len) found (drop len rest) (omega arith))

measured-ahead : (at len : ℕ) (rest : List ℕ) → GivesAhead at (measured at len rest)
measured-ahead at len rest =
    cond_both (ltb len 65536) (framed at len rest) (Fails (faults.HeaderTooLong at len)) (λ o. GivesAhead at o) (λ e. framed-ahead at len rest) (λ e. tt)

next_of-ahead : (at : ℕ) (rest : List ℕ) → GivesAhead at (next_of at rest)
unfolding next_of
next_of-ahead at rest =
    let len = from_be_bytes w32 (take 4 rest) in
    let cut = Fails (faults.Truncated at) in
    cond_both (eqb (length rest) 0) Ends (cond (ltb (length rest) 4) cut (measured at len (drop 4 rest))) (λ o. GivesAhead at o) (λ e. tt)
    (λ e. cond_both (ltb (length rest) 4) cut (measured at len (drop 4 rest)) (λ o. GivesAhead at o) (λ e. tt) (λ e. measured-ahead at len (drop 4 rest)))

pub gives-ahead : (at : ℕ) (rest : List ℕ) (blob : Blob) → next_of at rest ≡ Gives blob → (at + 4 ≤ blob.end) × (blob.end ≤ 536870912)
gives-ahead at rest blob e = subst (λ (o : Outcome). GivesAhead at o) e (next_of-ahead at rest)
