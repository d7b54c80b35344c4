-- A whole input is read as one list of blobs and one last outcome. Without a fault it is a concatenation of triples.
use Rattle.std.proofs.Common.{◌≡◌, ℕ, zero, suc, ◌-◌, ◌<◌, ◌↔◌, List, [], ◌∷◌, ◌++◌, length, drop, refl, sym, ap, ◌∙◌, subst, arith}
use Rattle.std.proofs.lemmas.List.{drop-drop, drop_at}
use Rattle.std.proofs.lemmas.List.Elements.{All-drop}
use Rattle.wire_read.specs.Varint.{AreBytes}
use Rattle.pbf_blobs.specs.declared.blob.Blob.{Blob}
use Rattle.pbf_blobs.specs.Triple.{IsTriple, AreTriples}
use Rattle.pbf_blobs.specs.Next.{Outcome, Ends, Gives, Fails, next_of}
use Rattle.pbf_blobs.specs.Means.{BeginsWithTriple}
use Rattle.pbf_blobs.specs.Frames.{Frames, IsLast, IsFramed}
use Rattle.pbf_blobs.proofs.Ahead.{gives-ahead}
use Rattle.pbf_blobs.proofs.Meanings.{outcome_means}

-- what is left of bytes is bytes
left-are : (bytes : List ℕ) (at : ℕ) → AreBytes bytes → AreBytes (drop at bytes)
left-are bytes at are = All-drop (λ b. b < 256) at bytes are

-- a blob's triple
triple-there : (bytes : List ℕ) (at : ℕ) (blob : Blob) → AreBytes bytes → next_of at (drop at bytes) ≡ Gives blob → BeginsWithTriple at (drop at bytes) blob
triple-there bytes at blob are e = (outcome_means at (drop at bytes) (left-are bytes at are) (Gives blob)).0 e

-- and what follows it is left at the blob's end
left-behind : (bytes : List ℕ) (at : ℕ) (blob : Blob) (triple after : List ℕ) → IsTriple at triple blob → drop at bytes ≡ triple ++ after → drop blob.end bytes ≡ after
left-behind bytes at blob triple after is e =
    ap (λ n. drop n bytes) is.end ∙ sym (drop-drop (length triple) at bytes) ∙ ap (drop (length triple)) e ∙ drop_at triple after (length triple) refl

-- ---- frames without fault are a concatenation of triples

triples-from_frames : (bytes : List ℕ) (at : ℕ) (blobs : List Blob) → AreBytes bytes → Frames bytes at blobs Ends → AreTriples at (drop at bytes) blobs
triples-from_frames bytes at [] are frames = (outcome_means at (drop at bytes) (left-are bytes at are) Ends).0 frames
triples-from_frames bytes at (blob ∷ blobs) are frames =
    let begins = triple-there bytes at blob are frames.0 in
    let others = triples-from_frames bytes blob.end blobs are frames.1 in (
      begins.triple,
      begins.after,
      begins.is_triple,
      begins.parts,
      subst (λ (xs : List ℕ). AreTriples blob.end xs blobs) (left-behind bytes at blob begins.triple begins.after begins.is_triple begins.parts) others,
    )

frames-from_triples : (bytes : List ℕ) (at : ℕ) (blobs : List Blob) → AreBytes bytes → AreTriples at (drop at bytes) blobs → Frames bytes at blobs Ends
frames-from_triples bytes at [] are none = (outcome_means at (drop at bytes) (left-are bytes at are) Ends).1 none
frames-from_triples bytes at (blob ∷ blobs) are t =
    let here = (outcome_means at (drop at bytes) (left-are bytes at are) (Gives blob)).1 (record { triple = t.0; after = t.1; is_triple = t.2; parts = t.3 }) in
    (here, frames-from_triples bytes blob.end blobs are (subst (λ (xs : List ℕ). AreTriples blob.end xs blobs) (sym (left-behind bytes at blob t.0 t.1 t.2 t.3)) t.4))

pub frames_are_triples : (bytes : List ℕ) → AreBytes bytes → (at : ℕ) (blobs : List Blob) → Frames bytes at blobs Ends ↔ AreTriples at (drop at bytes) blobs
frames_are_triples bytes are at blobs = (triples-from_frames bytes at blobs are, frames-from_triples bytes at blobs are)

-- ---- there is a list of blobs and a last outcome

-- by the bytes that an input may still have
framed_by : (most : ℕ) (bytes : List ℕ) (at : ℕ) (outcome : Outcome) → 536870912 - at < suc most → next_of at (drop at bytes) ≡ outcome → ((next : ℕ) → 536870912 - next < most → IsFramed bytes next) → IsFramed bytes at
framed_by most bytes at Ends room e behind = record { blobs = []; outcome = Ends; last = tt; frames = e }
framed_by most bytes at (Gives blob) room e behind =
    let ahead = gives-ahead at (drop at bytes) blob e in
    let others = behind blob.end (omega (arith, ahead.0, ahead.1, room)) in
    record { blobs = blob ∷ others.blobs; outcome = others.outcome; last = others.last; frames = (e, others.frames) }
framed_by most bytes at (Fails fault) room e behind = record { blobs = []; outcome = Fails fault; last = tt; frames = e }

framed_within : (most : ℕ) (bytes : List ℕ) (at : ℕ) → 536870912 - at < most → IsFramed bytes at
framed_within zero bytes at room = absurd (omega arith)
framed_within (suc most) bytes at room =
    framed_by most bytes at (next_of at (drop at bytes)) room refl (λ next less. framed_within most bytes next less)

pub is_framed : (bytes : List ℕ) (at : ℕ) → IsFramed bytes at
is_framed bytes at = framed_within (suc (536870912 - at)) bytes at (omega arith)

-- ---- and only one

not_last : (blob : Blob) (outcome : Outcome) → IsLast outcome → outcome ≡ Gives blob → ⊥
not_last blob outcome last is = subst (λ (o : Outcome). IsLast o) is last

same_blob : (a b : Blob) → Gives a ≡ Gives b → a ≡ b
same_blob a b e = cc

pub one_way : (bytes : List ℕ) (at : ℕ) (blobs others : List Blob) (outcome other : Outcome) → IsLast outcome → IsLast other → Frames bytes at blobs outcome → Frames bytes at others other → (others ≡ blobs) × (other ≡ outcome)
one_way bytes at [] [] outcome other last last_other frames more = (refl, sym more ∙ frames)
one_way bytes at [] (blob ∷ others) outcome other last last_other frames more = absurd (not_last blob outcome last (sym frames ∙ more.0))
one_way bytes at (blob ∷ blobs) [] outcome other last last_other frames more = absurd (not_last blob other last_other (sym more ∙ frames.0))
one_way bytes at (blob ∷ blobs) (first ∷ others) outcome other last last_other frames more =
    let same : first ≡ blob = same_blob first blob (sym more.0 ∙ frames.0) in
    let rest = one_way bytes blob.end blobs others outcome other last last_other frames.1 (subst (λ (b : Blob). Frames bytes b.end others other) same more.1) in
    (ap (λ b. b ∷ others) same ∙ ap (λ bs. blob ∷ bs) rest.0, rest.1)
