-- A file read blob by blob: what has been read, and how it goes on.
use Rattle.std.proofs.Common.{◌≡◌, inl, inr, ℕ, ◌+◌, ◌-◌, ◌≤◌, Bool, true, false, List, [], ◌∷◌, ◌++◌, length, drop, Some, Result, Ok, Err, refl, sym, ap, ◌∙◌, subst, arith}
use Rattle.std.specs.Option.{option_map}
use Rattle.host_port.specs.Told.{Told, moved}
use Rattle.host_port.specs.HostState.{HostState, OnlyReads}
use Rattle.host_port.proofs.HostFrames.{reads_none, reads_then}
use Rattle.osm_model.specs.declared.extract.Extract.{Extract}
use Rattle.pbf_blobs.specs.declared.blob.Blob.{Blob}
use Rattle.pbf_blobs.specs.Next.{Outcome, Ends, Gives, Fails, next_of}
use Rattle.pbf_blobs.specs.Frames.{Frames}
use Rattle.pbf_blobs.specs.Answers.{Where}
use Rattle.osm_blocks.specs.declared.fault.ExtractFault.{ExtractFault}
use Rattle.osm_blocks.specs.Faults.{is_read, is_of_bytes}
use Rattle.osm_objects.specs.Sizes.{parts_in}
use Rattle.osm_blocks.specs.Extracts.{◌>>=◌, Draft, empty_draft, with_blob, with_blobs, EndsWith, Refuses}
use Rattle.osm_blocks.specs.Steps.{Finishes}
use Rattle.osm_blocks.specs.ReadAnswers.{Answers, FailsNext}

-- ---- facts that hold where a test is true

pub where_map : {P Q : Type 0} (b : Bool) → (P → Q) → Where b P → Where b Q
where_map true f h = f h
where_map false f h = tt

pub where_given : {P : Type 0} (b : Bool) → P → Where b P
where_given true h = h
where_given false h = tt

-- ---- one blob more

pub Frames-on : (bytes : List ℕ) (at : ℕ) (blobs : List Blob) (blob : Blob) (o : Outcome) → Frames bytes at blobs (Gives blob) → next_of blob.end (drop blob.end bytes) ≡ o → Frames bytes at (blobs ++ blob ∷ []) o
Frames-on bytes at [] blob o frames next = (frames, next)
Frames-on bytes at (b ∷ blobs) blob o frames next = (frames.0, Frames-on bytes b.end blobs blob o frames.1 next)

-- blobs behind blobs
pub with_more : (draft : Draft) (blobs more : List Blob) → with_blobs draft (blobs ++ more) ≡ (with_blobs draft blobs >>= λ d. with_blobs d more)
with_more draft [] more = refl
with_more draft (blob ∷ blobs) more = behind (λ d. with_more d blobs more) (with_blob draft blob)
  where
    behind : ((d : Draft) → with_blobs d (blobs ++ more) ≡ (with_blobs d blobs >>= λ e. with_blobs e more)) → (next : Result Draft ExtractFault)
        → (next >>= λ d. with_blobs d (blobs ++ more)) ≡ ((next >>= λ d. with_blobs d blobs) >>= λ d. with_blobs d more)
    behind others (Ok d) = others d
    behind others (Err fault) = refl

pub with_last : (draft now : Draft) (blobs : List Blob) (blob : Blob) (last : Result Draft ExtractFault) → with_blobs draft blobs ≡ Ok now → with_blob now blob ≡ last → with_blobs draft (blobs ++ blob ∷ []) ≡ last
with_last draft now blobs blob last e f = with_more draft blobs (blob ∷ []) ∙ ap (λ r. r >>= λ d. with_blobs d (blob ∷ [])) e ∙ alone (with_blob now blob) ∙ f
  where
    alone : (r : Result Draft ExtractFault) → (r >>= λ d. Ok d) ≡ r
    alone (Ok d) = refl
    alone (Err fault) = refl

-- ---- what has been read

-- The blobs before the place at have no fault, and this draft is theirs; the frames go on from there.
pub record ReadTo (bytes : List ℕ) (at : ℕ) (draft : Draft) : Type 0 where
  pub blobs : List Blob
  pub frames : (o : Outcome) → next_of at (drop at bytes) ≡ o → Frames bytes 0 blobs o
  pub grows : with_blobs empty_draft blobs ≡ Ok draft

pub ReadTo-none : (bytes : List ℕ) → ReadTo bytes 0 empty_draft
ReadTo-none bytes = record { blobs = []; frames = λ o h. h; grows = refl }

pub ReadTo-next : (bytes : List ℕ) (at : ℕ) (blob : Blob) (old new : Draft) → ReadTo bytes at old → next_of at (drop at bytes) ≡ Gives blob → with_blob old blob ≡ Ok new → ReadTo bytes blob.end new
ReadTo-next bytes at blob old new so_far next e = record {
  blobs = so_far.blobs ++ blob ∷ [];
  frames = λ o h. Frames-on bytes 0 so_far.blobs blob o (so_far.frames (Gives blob) next) h;
  grows = with_last empty_draft old so_far.blobs blob (Ok new) so_far.grows e;
}

pub ReadTo-fails : (bytes : List ℕ) (at : ℕ) (draft : Draft) (fault : ExtractFault) → ReadTo bytes at draft → FailsNext draft fault (next_of at (drop at bytes)) → Refuses bytes fault
ReadTo-fails bytes at draft fault so_far (inl h) =
    record { blobs = so_far.blobs; draft = draft; grows = so_far.grows; next = inl (h.0, so_far.frames (Fails h.0) h.1, h.2) }
ReadTo-fails bytes at draft fault so_far (inr h) =
    record { blobs = so_far.blobs; draft = draft; grows = so_far.grows; next = inr (inl (h.0, so_far.frames (Gives h.0) h.1, h.2)) }

pub ReadTo-ends : (bytes : List ℕ) (at : ℕ) (draft : Draft) (result : Result Extract ExtractFault) → ReadTo bytes at draft → next_of at (drop at bytes) ≡ Ends → at ≡ length bytes → Finishes at draft result → Answers bytes result
ReadTo-ends bytes at draft (Ok extract) so_far next all ends =
    record { blobs = so_far.blobs; draft = draft; frames = so_far.frames Ends next; grows = so_far.grows; ends = ends }
ReadTo-ends bytes at draft (Err fault) so_far next all ends =
    where_map (is_of_bytes fault)
    (λ (end : EndsWith at draft fault). record { blobs = so_far.blobs; draft = draft; grows = so_far.grows; next = inr (inr (so_far.frames Ends next, subst (λ n. EndsWith n draft fault) all end)) }) ends

-- the end brings no fault of reading
pub ends_unread : (size : ℕ) (draft : Draft) (fault : ExtractFault) → EndsWith size draft fault → is_read fault ≡ false
ends_unread size draft fault (inl h) = ap is_read h.is
ends_unread size draft fault (inr (inl h)) = ap is_read h.is
ends_unread size draft fault (inr (inr h)) = ap is_read h.is

-- ---- a step of the loop

pub moved_to : (told : Told) (n p q : ℕ) → told.place ≡ Some p → p + n ≡ q → (moved n told).place ≡ Some q
moved_to told n p q e f = ap (λ o. option_map (λ x. x + n) o) e ∙ ap (λ x. Some x) f

-- what has been read of the input, and that no more was
pub record Stands (bytes : List ℕ) (at : ℕ) (draft : Draft) : Type 0 where
  pub read : ReadTo bytes at draft
  pub within : at ≤ length bytes

pub record Leads (before now : HostState) (at : ℕ) (draft : Draft) : Type 0 where
  pub place : before.told.place ≡ Some 0 → now.told.place ≡ Some at
  pub frame : OnlyReads before now
  pub stands : (bytes : List ℕ) → before.told.input ≡ Some bytes → before.told.place ≡ Some 0 → Stands bytes at draft

-- what the loop over the blobs keeps, of the host and of the draft
pub record Steady (before now : HostState) (at : ℕ) (draft : Draft) (are_placed : Type 0) : Type 0 where
  pub leads : Leads before now at draft
  pub room : parts_in draft.objects ≤ at
  pub low : at ≤ 536870912
  pub placed : are_placed
  pub no_fault : now.read_faults ≡ before.read_faults

pub Leads-none : (state : HostState) → Leads state state 0 empty_draft
Leads-none state = record { place = λ e. e; frame = reads_none state; stands = λ bytes input place. record { read = ReadTo-none bytes; within = omega arith } }

-- the next blob
pub Leads-next : (before now later : HostState) (at end : ℕ) (old new : Draft) → Leads before now at old → at + 4 ≤ end → later.told ≡ moved (end - at) now.told → OnlyReads now later
    → ((bytes : List ℕ) → now.told.input ≡ Some bytes → now.told.place ≡ Some at → (blob : Blob) × (next_of at (drop at bytes) ≡ Gives blob) × (end ≡ blob.end) × (with_blob old blob ≡ Ok new))
    → ((bytes : List ℕ) → now.told.input ≡ Some bytes → now.told.place ≡ Some at → end ≤ length bytes)
    → Leads before later end new
Leads-next before now later at end old new leads ahead moves frame next within = record {
  place = λ e. ap (λ (t : Told). t.place) moves ∙ moved_to now.told (end - at) at end (leads.place e) (omega arith);
  frame = reads_then before now later leads.frame frame;
  stands = λ bytes input place.
      let b = next bytes (leads.frame.input ∙ input) (leads.place place) in
      record {
        read = subst (λ (n : ℕ). ReadTo bytes n new) (sym b.2) (ReadTo-next bytes at b.0 old new (leads.stands bytes input place).read b.1 b.3);
        within = within bytes (leads.frame.input ∙ input) (leads.place place);
      };
}
