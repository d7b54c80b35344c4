-- A buffer that is filled from the input, piece by piece.
use Rattle.std.proofs.Common.{◌≡◌, ℕ, ◌+◌, ◌-◌, ◌<◌, ◌≤◌, List, ◌++◌, length, take, drop, refl, sym, ap, ◌∙◌, arith, Option, Some, None, length-append, length-drop}
use Rattle.std.specs.Option.{option_map}
use Rattle.std.proofs.Math.Seq.{take-add, take-append-add}
use Rattle.std.proofs.lemmas.List.{take-append-le, take-take, take_all, drop-drop, length-take-le}
use Rattle.std.proofs.lemmas.Slice.{take-put_mid_below}
use borrow.Rule.Slice.PartMut.{put_mid, post_of}
use Rattle.host_port.specs.Told.{Told, moved, Gives}
use Rattle.pbf_blobs.specs.Input.{Fills}

-- the first bytes of the buffer are the next ones of the input, and the place is behind them
pub record Filling (old new : Told) (filled : ℕ) (buf : List ℕ) : Type 0 where
  pub most : filled ≤ length buf
  pub bytes : (input : List ℕ) (place : ℕ) → old.input ≡ Some input → old.place ≡ Some place → take filled buf ≡ take filled (drop place input)
  pub moved : new ≡ moved filled old

-- two moves are one
pub moved-moved : (told : Told) (m n : ℕ) → moved n (moved m told) ≡ moved (m + n) told
moved-moved told m n = ap (λ p. record told { place = p }) (places told.place)
  where
    places : (place : Option ℕ) → option_map (λ p. p + n) (option_map (λ p. p + m) place) ≡ option_map (λ p. p + (m + n)) place
    places None = refl
    places (Some p) = ap Some (omega arith)

-- the place after a move
pub place-moved : (old new : Told) (n place : ℕ) → new ≡ moved n old → old.place ≡ Some place → new.place ≡ Some (place + n)
place-moved old new n place e at = ap (λ t. t.place) e ∙ ap (option_map (λ p. p + n)) at

-- a buffer of which a part was written keeps its length
pub length-written : (filled : ℕ) (buf got : List ℕ) → filled ≤ length buf → length got ≡ length buf - filled → length (put_mid filled (length buf - filled) buf got) ≡ length buf
length-written filled buf got within size =
    omega (
      arith,
      length-append (take filled buf) (got ++ post_of filled (length buf - filled) buf),
      length-append got (post_of filled (length buf - filled) buf),
      length-take-le filled buf within,
      length-drop (length buf - filled) (drop filled buf),
      length-drop filled buf,
    )

-- the front of such a buffer, up to inside the part
take-written : (filled size count : ℕ) (buf got : List ℕ) → filled ≤ length buf → count ≤ length got → take (filled + count) (put_mid filled size buf got) ≡ take filled buf ++ take count got
take-written filled size count buf got within fits =
    ap (λ n. take (n + count) (take filled buf ++ (got ++ post_of filled size buf))) (sym (length-take-le filled buf within))
    ∙ take-append-add (take filled buf) (got ++ post_of filled size buf) count
    ∙ ap (λ xs. take filled buf ++ xs) (take-append-le count got (post_of filled size buf) fits)

-- a piece more
pub grown : (old mid new : Told) (filled count : ℕ) (buf got : List ℕ) → Filling old mid filled buf → Gives mid count got → count ≤ length got → length got ≡ length buf - filled → new ≡ moved count mid
    → Filling old new (filled + count) (put_mid filled (length buf - filled) buf got)
grown old mid new filled count buf got before gives fits size step = record {
  most = omega (arith, length-written filled buf got before.most size, before.most);
  bytes = λ input place told at. same input place told at;
  moved = step ∙ ap (moved count) before.moved ∙ moved-moved old filled count;
}
  where
    same : (input : List ℕ) (place : ℕ) → old.input ≡ Some input → old.place ≡ Some place → take (filled + count) (put_mid filled (length buf - filled) buf got) ≡ take (filled + count) (drop place input)
    same input place told at =
        let front = before.bytes input place told at in
        let mid_input : mid.input ≡ Some input = ap (λ t. t.input) before.moved ∙ told in
        let piece = gives.bytes input (place + filled) mid_input (place-moved old mid filled place before.moved at) in
        take-written filled (length buf - filled) count buf got before.most fits ∙ ap (λ xs. xs ++ take count got) front ∙ ap (λ xs. take filled (drop place input) ++ xs) (piece ∙ ap (take count) (sym (drop-drop filled place input)))
        ∙ sym (take-add filled count (drop place input))

-- the input's end: no byte came, though the buffer had room
pub ended : (old mid : Told) (filled count : ℕ) (buf got : List ℕ) → Filling old mid filled buf → Gives mid count got → count ≡ 0 → filled < length buf → length got ≡ length buf - filled
    → Fills old filled (put_mid filled (length buf - filled) buf got)
ended old mid filled count buf got before gives none room size input place told at =
    let mid_input : mid.input ≡ Some input = ap (λ t. t.input) before.moved ∙ told in
    let end : length input ≤ place + filled = gives.end input (place + filled) mid_input (place-moved old mid filled place before.moved at) none (omega arith) in
    let whole : length (drop place input) ≤ filled = omega (arith, length-drop place input) in
    take-put_mid_below filled (length buf - filled) buf got filled (omega arith) before.most
    ∙ before.bytes input place told at
    ∙ take_all filled (drop place input) whole
    ∙ sym (take_all (length (put_mid filled (length buf - filled) buf got)) (drop place input) (omega (arith, length-written filled buf got before.most size)))

-- What stands behind a front of a list after the rest of it was filled.
pub behind : (front buf got now next : List ℕ) (size read left : ℕ) → now ≡ take (length front + read) (put_mid (length front) size buf got)
    → take (length front) buf ≡ front → length front ≤ length buf → read ≤ length got → take read got ≡ take (length got) next → length got ≡ left
    → now ≡ front ++ take left next
behind front buf got now next size read left is is_front within fits filled count =
    is ∙ take-written (length front) size read buf got within fits
    ∙ ap (λ xs. xs ++ take read got) is_front
    ∙ ap (λ xs. front ++ xs) (filled ∙ ap (λ n. take n next) count)

-- A front that ends inside a vector's items is that of what they were written over with.
pub take-items : (n len : ℕ) (written before : List ℕ) → n ≤ len → n ≤ length written → take n (take len (written ++ before)) ≡ take n written
take-items n len written before short fits = take-take n len (written ++ before) short ∙ take-append-le n written before fits
