-- A file has a first fault by its computation exactly where it has that fault by the format.
use Rattle.std.proofs.Common.{◌≡◌, ◌⊎◌, ◌↔◌, inl, inr, ℕ, ◌<◌, ◌≤◌, ◌+◌, cond, not, ◌&&◌, ◌||◌, Bool, true, false, List, [], ◌∷◌, ◌++◌, length, drop, Option, Some, None, Result, Ok, Err, refl, sym, ap, ◌∙◌, subst, arith}
use Rattle.std.specs.Prelude.{codes, nat_lt}
use Rattle.std.specs.List.{AllByRecursion, find}
use Rattle.std.specs.Option.{option_map}
use Rattle.std.specs.Str.{bytes_eq}
use Rattle.std.proofs.lemmas.Bool.{ltb-false, ltb-true, le-ltb, lt-ltb}
use Rattle.std.proofs.lemmas.List.{drop-drop, drop_at}
use Rattle.wire_read.specs.Varint.{AreBytes}
use Rattle.wire_read.proofs.Packed.{AreBytes-rest}
use Rattle.pbf_blobs.specs.declared.blob.Blob.{Blob}
use Rattle.pbf_blobs.specs.declared.fault.PbfFault.{PbfFault}
use Rattle.pbf_blobs.specs.Triple.{IsTriple}
use Rattle.pbf_blobs.specs.Means.{Means, MeansFault, BeginsWithTriple}
use Rattle.pbf_blobs.specs.Next.{Outcome, Ends, Gives, Fails, next_of}
use Rattle.pbf_blobs.specs.Frames.{Frames}
use Rattle.osm_messages.specs.declared.fault.MessageFault.{MessageFault}
use Rattle.osm_messages.specs.Blocks.{Block, block_in}
use Rattle.osm_messages.specs.Headers.{features_in}
use Rattle.osm_messages.specs.Means.{IsHeaderBlock, IsPrimitiveBlock}
use Rattle.osm_messages.specs.Faults.{InNone, InBlock, IsFirst}
use Rattle.osm_messages.proofs.Meant.{front_bytes}
use Rattle.osm_objects.specs.declared.fault.ObjectFault.{ObjectFault}
use Rattle.osm_objects.specs.Objects.{Objects, joined, objects_of}
use Rattle.osm_objects.specs.Means.{HoldsOfOne}
use Rattle.osm_objects.specs.Causes.{IsFirstOfBlock}
use Rattle.osm_blocks.specs.declared.fault.Counted.{Counted}
use Rattle.osm_blocks.specs.declared.fault.ExtractFault.{ExtractFault}
use Rattle.osm_blocks.specs.declared.fault.ExtractFault.TheVariants as faults
use Rattle.osm_blocks.specs.Faults.{framed_as, spelled_as, meant_as}
use Rattle.osm_blocks.specs.Features.{first_unknown, shown}
use Rattle.osm_blocks.specs.Counts.{Count, counts_of, first_past}
use Rattle.osm_blocks.specs.Extracts.{◌>>=◌, given, Draft, empty_draft, all_known, header_in, objects_in, with_header, with_data, with_blob, with_blobs, EndsWith, AreDistinct, IsFirstTwice, Refuses}
use Rattle.osm_blocks.specs.FileContent.{IsHeaderBlob, IsDataBlob, IsReadFeature, AllGive, HeadersFirst}
use Rattle.osm_blocks.specs.FileFaults.{BeginsWithTriples, HasBrokenHeaderBlock, HasUnreadFeature, HasBrokenDataBlock, HasFaultyObjects, HasBlobFault, IsFirstPast, HasEndFault, IsFaultyFile}
use Rattle.osm_blocks.proofs.ContentLaw.{Laws, BlobsGive, blobs_give, give_blobs, Headed, nothing_headed, none_joined, RawBytes, AllRaw, triple_bytes, same_bytes, bytes_same, not_same, differ, types_differ, unknown, read_feature, feature_read, features_known, known_features, true_false}

-- ---- results

err_one : {A : Type 0} (f g : ExtractFault) → ◌≡◌ {A = Result A ExtractFault} (Err f) (Err g) → g ≡ f
err_one f g e = cc

not_err : {A : Type 0} (x : A) (f : ExtractFault) → ◌≡◌ {A = Result A ExtractFault} (Ok x) (Err f) → ⊥
not_err x f e = cc

ok_one : {A : Type 0} (x y : A) → ◌≡◌ {A = Result A ExtractFault} (Ok x) (Ok y) → x ≡ y
ok_one x y e = cc

not_ok : {A : Type 0} (f : ExtractFault) (y : A) → ◌≡◌ {A = Result A ExtractFault} (Err f) (Ok y) → ⊥
not_ok f y e = cc

err_up : {A : Type 0} (f g : ExtractFault) → f ≡ g → ◌≡◌ {A = Result A ExtractFault} (Err f) (Err g)
err_up f g e = ap (λ h. Err h) e

-- a fault of two steps is that of the first, or that of the second
one_part : {A B : Type 0} (r : Result A ExtractFault) (f : A → Result B ExtractFault) (d : ExtractFault) → (r >>= f) ≡ Err d → (r ≡ Err d) ⊎ ((x : A) × (r ≡ Ok x) × (f x ≡ Err d))
one_part (Ok x) f d e = inr (x, refl, e)
one_part (Err g) f d e = inl (err_up g d (sym (err_one g d e)))

-- where the second has none, it is that of the first
first_part : {A B : Type 0} (r : Result A ExtractFault) (g : A → B) (d : ExtractFault) → (r >>= λ x. Ok (g x)) ≡ Err d → r ≡ Err d
first_part r g d e = elim (one_part r (λ x. Ok (g x)) d e) [
  | inl h ↦ h
  | inr h ↦ absurd (not_err (g h.0) d h.2)
]

then_fails : {A B : Type 0} (r : Result A ExtractFault) (f : A → Result B ExtractFault) (d : ExtractFault) → r ≡ Err d → (r >>= f) ≡ Err d
then_fails r f d e = ap (λ q. q >>= f) e

then_so : {A B : Type 0} (r : Result A ExtractFault) (x : A) (f : A → Result B ExtractFault) (y : Result B ExtractFault) → r ≡ Ok x → f x ≡ y → (r >>= f) ≡ y
then_so r x f y e h = ap (λ q. q >>= f) e ∙ h

given_ok : {A F : Type 0} (as_fault : F → ExtractFault) (r : Result A F) (x : A) → given as_fault r ≡ Ok x → r ≡ Ok x
given_ok as_fault (Ok y) x e = ap (λ z. Ok z) (ok_one y x e)
given_ok as_fault (Err d) x e = absurd (not_ok (as_fault d) x e)

given_err : {A F : Type 0} (as_fault : F → ExtractFault) (r : Result A F) (d : ExtractFault) → given as_fault r ≡ Err d → (f : F) × (r ≡ Err f) × (d ≡ as_fault f)
given_err as_fault (Ok y) d e = absurd (not_err y d e)
given_err as_fault (Err f) d e = (f, refl, err_one (as_fault f) d e)

-- ---- the first of a list for which a test holds

abbrev Fails_before : {X : Type 0} → (X → Bool) → List X → Type 0
Fails_before test before = AllByRecursion (λ x. test x ≡ false) before

record IsFound {X : Type 0} (test : X → Bool) (xs : List X) (x : X) : Type 0 where
  before : List X
  after : List X
  parts : xs ≡ before ++ x ∷ after
  none : Fails_before test before
  holds : test x ≡ true

not_some : {X : Type 0} (x : X) → None ≡ Some x → ⊥
not_some x e = cc

some_one : {X : Type 0} (x y : X) → Some x ≡ Some y → x ≡ y
some_one x y e = cc

found_is : {X : Type 0} (test : X → Bool) (xs : List X) (x : X) → find test xs ≡ Some x → IsFound test xs x
found_is test [] x e = absurd (not_some x e)
found_is test (y ∷ xs) x e = by (test y) refl (found_is test xs x) e
  where
    by : (b : Bool) → test y ≡ b → (find test xs ≡ Some x → IsFound test xs x) → cond b (Some y) (find test xs) ≡ Some x → IsFound test (y ∷ xs) x
    by true h rest e =
        let same : y ≡ x = some_one y x e in
        record { before = []; after = xs; parts = ap (λ z. z ∷ xs) same; none = tt; holds = ap test (sym same) ∙ h }
    by false h rest e =
        let more = rest e in
        record { before = y ∷ more.before; after = more.after; parts = ap (λ zs. y ∷ zs) more.parts; none = (h, more.none); holds = more.holds }

is_found : {X : Type 0} (test : X → Bool) (before : List X) (x : X) (after : List X) → Fails_before test before → test x ≡ true → find test (before ++ x ∷ after) ≡ Some x
is_found test [] x after none holds = ap (λ b. cond b (Some x) (find test after)) holds
is_found test (y ∷ before) x after none holds = ap (λ b. cond b (Some y) (find test (before ++ x ∷ after))) none.0 ∙ is_found test before x after none.1 holds

each_by : {X : Type 0} (P Q : X → Type 0) (xs : List X) → ((x : X) → P x → Q x) → AllByRecursion P xs → AllByRecursion Q xs
each_by P Q [] f all = tt
each_by P Q (x ∷ xs) f all = (f x all.0, each_by P Q xs f all.1)

unheaded : (b : Bool) → (b ≡ true → ⊥) → b ≡ false
unheaded true never = absurd (never refl)
unheaded false never = refl

either_way : (b : Bool) → (b ≡ false → ⊥) → b ≡ true
either_way true never = refl
either_way false never = absurd (never refl)

-- ---- a blob that isn't a header

abbrev as_data : Draft → Blob → Result Draft ExtractFault
as_data old blob = cond old.headed (with_data old blob) (Err (faults.NoHeader blob.at))

abbrev as_other : Draft → Blob → Result Draft ExtractFault
as_other old blob = cond (bytes_eq blob.kind (codes "OSMData")) (as_data old blob) (Ok old)

-- ---- counts

abbrev some_pair : Counted → ℕ → Option (Counted × ℕ)
some_pair what found = Some (what, found)

abbrev count_pair : Count → Counted × ℕ
count_pair count = (count.what, count.found)

abbrev is_past : Count → Bool
is_past count = nat_lt count.most count.found

within_is : (count : Count) → is_past count ≡ false → count.found ≤ count.most
within_is count e = ltb-false count.most count.found e

is_within : (count : Count) → count.found ≤ count.most → is_past count ≡ false
is_within count h = le-ltb count.most count.found h

past_is : (count : Count) → is_past count ≡ true → count.most < count.found
past_is count e = ltb-true count.most count.found e

is_past_so : (count : Count) → count.most < count.found → is_past count ≡ true
is_past_so count h = lt-ltb count.most count.found h

-- ---- the laws of the layers below

pub record FaultLaws : Type 0 where
  pub header : (at : ℕ) (bytes : List ℕ) → AreBytes bytes → (fault : MessageFault) → (features_in at bytes ≡ Err fault) ↔ IsFirst InNone at bytes fault
  pub block : (at : ℕ) (bytes : List ℕ) → AreBytes bytes → (fault : MessageFault) → (block_in at bytes ≡ Err fault) ↔ IsFirst InBlock at bytes fault
  pub objects : (at : ℕ) (bytes : List ℕ) → AreBytes bytes → (block : Block) → IsPrimitiveBlock at bytes block → (fault : ObjectFault) → (objects_of at block ≡ Err fault) ↔ IsFirstOfBlock at block fault
  pub causes : (at : ℕ) (rest : List ℕ) → AreBytes rest → (outcome : Outcome) → (next_of at rest ≡ outcome) ↔ Means at rest outcome

module _ (laws : Laws) (fault_laws : FaultLaws) where
  -- ---- the triples before the fault

  -- what is left behind the triple that stands at a place
  left_behind : (bytes : List ℕ) (at : ℕ) (blob : Blob) (triple after : List ℕ) → IsTriple at triple blob → drop at bytes ≡ triple ++ after → drop blob.end bytes ≡ after
  left_behind bytes at blob triple after is e =
      ap (λ n. drop n bytes) is.end ∙ sym (drop-drop (length triple) at bytes) ∙ ap (drop (length triple)) e ∙ drop_at triple after (length triple) refl

  -- frames up to an outcome, by triples
  record Split (at : ℕ) (bytes : List ℕ) (blobs : List Blob) (outcome : Outcome) : Type 0 where
    end : ℕ
    left : List ℕ
    are : AreBytes left
    begins : BeginsWithTriples at bytes blobs end left
    raw : AllRaw blobs
    next : next_of end left ≡ outcome

  split : (bytes : List ℕ) (at : ℕ) (blobs : List Blob) (outcome : Outcome) → AreBytes (drop at bytes) → Frames bytes at blobs outcome → Split at (drop at bytes) blobs outcome
  split bytes at [] outcome are frames = record { end = at; left = drop at bytes; are = are; begins = (refl, refl); raw = tt; next = frames }
  split bytes at (blob ∷ blobs) outcome are frames =
      let here = (fault_laws.causes at (drop at bytes) are (Gives blob)).0 frames.0 in
      let behind = left_behind bytes at blob here.triple here.after here.is_triple here.parts in
      let after_are = AreBytes-rest (drop at bytes) here.triple here.after are here.parts in
      let more = split bytes blob.end blobs outcome (subst AreBytes (sym behind) after_are) frames.1 in
      record {
        end = more.end;
        left = more.left;
        are = more.are;
        begins = (here.triple, here.after, here.is_triple, here.parts, subst (λ (xs : List ℕ). BeginsWithTriples blob.end xs blobs more.end more.left) behind more.begins);
        raw = (triple_bytes at here.triple blob (front_bytes (drop at bytes) here.triple here.after are here.parts) here.is_triple, more.raw);
        next = more.next;
      }

  record Joins (bytes : List ℕ) (at : ℕ) (blobs : List Blob) (left : List ℕ) (outcome : Outcome) : Type 0 where
    are : AreBytes left
    raw : AllRaw blobs
    frames : Frames bytes at blobs outcome

  join : (bytes : List ℕ) (at : ℕ) (blobs : List Blob) (end : ℕ) (left : List ℕ) (outcome : Outcome) → AreBytes (drop at bytes) → BeginsWithTriples at (drop at bytes) blobs end left
      → (AreBytes left → next_of end left ≡ outcome) → Joins bytes at blobs left outcome
  join bytes at [] end left outcome are (place, same) next =
      let left_are = subst AreBytes (sym same) are in
      record { are = left_are; raw = tt; frames = ap (λ n. next_of n (drop at bytes)) (sym place) ∙ ap (next_of end) (sym same) ∙ next left_are }
  join bytes at (blob ∷ blobs) end left outcome are (triple, rest, is, parts, others) next =
      let behind = left_behind bytes at blob triple rest is parts in
      let rest_are = AreBytes-rest (drop at bytes) triple rest are parts in
      let more = join bytes blob.end blobs end left outcome (subst AreBytes (sym behind) rest_are) (subst (λ (xs : List ℕ). BeginsWithTriples blob.end xs blobs end left) (sym behind) others) next in
      record {
        are = more.are;
        raw = (triple_bytes at triple blob (front_bytes (drop at bytes) triple rest are parts) is, more.raw);
        frames = ((fault_laws.causes at (drop at bytes) are (Gives blob)).1 (record { triple = triple; after = rest; is_triple = is; parts = parts }), more.frames);
      }

  -- ---- a header

  unread : (o : Option (ℕ × List ℕ)) (d : ExtractFault) → all_known o ≡ Err d → (feature : ℕ × List ℕ) × (o ≡ Some feature) × (d ≡ faults.Feature feature.0 (shown feature.1))
  unread None d e = absurd (not_err tt d e)
  unread (Some feature) d e = (feature, refl, err_one (faults.Feature feature.0 (shown feature.1)) d e)

  header_fault : (blob : Blob) → AreBytes blob.raw → (d : ExtractFault) → header_in blob.raw_at blob.raw ≡ Err d → HasBrokenHeaderBlock blob d ⊎ HasUnreadFeature blob d
  header_fault blob are d e = elim (one_part (given spelled_as (features_in blob.raw_at blob.raw)) (λ features. all_known (first_unknown features)) d e) [
    | inl h ↦ let m = given_err spelled_as (features_in blob.raw_at blob.raw) d h in
        inl (record { message = m.0; first = (fault_laws.header blob.raw_at blob.raw are m.0).0 m.1; is = m.2 })
    | inr h ↦ inr (by h.0 (given_ok spelled_as (features_in blob.raw_at blob.raw) h.0 h.1) (unread (first_unknown h.0) d h.2))
  ]
    where
      by : (features : List (ℕ × List ℕ)) → features_in blob.raw_at blob.raw ≡ Ok features
          → (feature : ℕ × List ℕ) × (first_unknown features ≡ Some feature) × (d ≡ faults.Feature feature.0 (shown feature.1)) → HasUnreadFeature blob d
      by features reads (feature, first, is) =
          let found = found_is unknown features feature first in
          record {
            before = found.before;
            feature = feature;
            after = found.after;
            is_header = subst (λ (l : List (ℕ × List ℕ)). IsHeaderBlock blob.raw_at blob.raw l) found.parts ((laws.header blob.raw_at blob.raw are features).0 reads);
            read = each_by (λ (f : ℕ × List ℕ). unknown f ≡ false) IsReadFeature found.before read_feature found.none;
            unread = λ read. true_false (sym found.holds ∙ feature_read feature read);
            is = is;
          }

  fault_header : (blob : Blob) → AreBytes blob.raw → (d : ExtractFault) → HasBrokenHeaderBlock blob d ⊎ HasUnreadFeature blob d → header_in blob.raw_at blob.raw ≡ Err d
  fault_header blob are d (inl h) =
      then_fails (given spelled_as (features_in blob.raw_at blob.raw)) (λ features. all_known (first_unknown features)) d
      (ap (given spelled_as) ((fault_laws.header blob.raw_at blob.raw are h.message).1 h.first) ∙ err_up (spelled_as h.message) d (sym h.is))
  fault_header blob are d (inr h) =
      let features : List (ℕ × List ℕ) = h.before ++ h.feature ∷ h.after in
      let is_unknown : unknown h.feature ≡ true = either_way (unknown h.feature) (λ e. h.unread (read_feature h.feature e)) in
      let first : first_unknown features ≡ Some h.feature = is_found unknown h.before h.feature h.after (each_by IsReadFeature (λ (f : ℕ × List ℕ). unknown f ≡ false) h.before feature_read h.read) is_unknown in
      then_so (given spelled_as (features_in blob.raw_at blob.raw)) features (λ features. all_known (first_unknown features)) (Err d)
      (ap (given spelled_as) ((laws.header blob.raw_at blob.raw are features).1 h.is_header))
      (ap all_known first ∙ err_up (faults.Feature h.feature.0 (shown h.feature.1)) d (sym h.is))

  -- ---- a PrimitiveBlock

  data_fault : (blob : Blob) → AreBytes blob.raw → (d : ExtractFault) → objects_in blob.raw_at blob.raw ≡ Err d → HasBrokenDataBlock blob d ⊎ HasFaultyObjects blob d
  data_fault blob are d e = elim (one_part (given spelled_as (block_in blob.raw_at blob.raw)) (λ block. given meant_as (objects_of blob.raw_at block)) d e) [
    | inl h ↦ let m = given_err spelled_as (block_in blob.raw_at blob.raw) d h in
        inl (record { message = m.0; first = (fault_laws.block blob.raw_at blob.raw are m.0).0 m.1; is = m.2 })
    | inr h ↦
        let is_block = (laws.block blob.raw_at blob.raw are h.0).0 (given_ok spelled_as (block_in blob.raw_at blob.raw) h.0 h.1) in
        let o = given_err meant_as (objects_of blob.raw_at h.0) d h.2 in
        inr (record { block = h.0; is_block = is_block; object = o.0; first = (fault_laws.objects blob.raw_at blob.raw are h.0 is_block o.0).0 o.1; is = o.2 })
  ]

  fault_data : (blob : Blob) → AreBytes blob.raw → (d : ExtractFault) → HasBrokenDataBlock blob d ⊎ HasFaultyObjects blob d → objects_in blob.raw_at blob.raw ≡ Err d
  fault_data blob are d (inl h) =
      then_fails (given spelled_as (block_in blob.raw_at blob.raw)) (λ block. given meant_as (objects_of blob.raw_at block)) d
      (ap (given spelled_as) ((fault_laws.block blob.raw_at blob.raw are h.message).1 h.first) ∙ err_up (spelled_as h.message) d (sym h.is))
  fault_data blob are d (inr h) =
      then_so (given spelled_as (block_in blob.raw_at blob.raw)) h.block (λ block. given meant_as (objects_of blob.raw_at block)) (Err d)
      (ap (given spelled_as) ((laws.block blob.raw_at blob.raw are h.block).1 h.is_block))
      (ap (given meant_as) ((fault_laws.objects blob.raw_at blob.raw are h.block h.is_block h.object).1 h.first) ∙ err_up (meant_as h.object) d (sym h.is))

  -- ---- a blob

  blob_fault : (before : List Blob) (old : Draft) (blob : Blob) → RawBytes blob → Headed laws before old → (d : ExtractFault) → with_blob old blob ≡ Err d → HasBlobFault before blob d
  blob_fault before old blob raw headed d e = by (bytes_eq blob.kind (codes "OSMHeader")) refl e
    where
      of_data : IsDataBlob blob → (b : Bool) → old.headed ≡ b → cond b (with_data old blob) (Err (faults.NoHeader blob.at)) ≡ Err d → HasBlobFault before blob d
      of_data is true h e =
          inr (inr (is, headed.0 h, data_fault blob (raw (inr is)) d (first_part (objects_in blob.raw_at blob.raw) (λ more. record old { objects = joined old.objects more }) d e)))
      of_data is false h e = inr (inl (is, (λ some. true_false (sym (headed.1 some) ∙ h)), err_one (faults.NoHeader blob.at) d e))

      of_other : (b : Bool) → bytes_eq blob.kind (codes "OSMData") ≡ b → cond b (as_data old blob) (Ok old) ≡ Err d → HasBlobFault before blob d
      of_other true h e = of_data (same_bytes blob.kind (codes "OSMData") h) old.headed refl e
      of_other false h e = absurd (not_err old d e)

      by : (b : Bool) → bytes_eq blob.kind (codes "OSMHeader") ≡ b → cond b (with_header old blob) (as_other old blob) ≡ Err d → HasBlobFault before blob d
      by true h e =
          let is = same_bytes blob.kind (codes "OSMHeader") h in
          inl (is, header_fault blob (raw (inl is)) d (first_part (header_in blob.raw_at blob.raw) (λ so. record old { headed = true }) d e))
      by false h e = of_other (bytes_eq blob.kind (codes "OSMData")) refl e

  -- a data blob is looked at as one
  data_step : (old : Draft) (blob : Blob) → IsDataBlob blob → with_blob old blob ≡ as_data old blob
  data_step old blob is =
      ap (λ b. cond b (with_header old blob) (as_other old blob)) (differ blob.kind (codes "OSMHeader") (λ e. types_differ laws (sym e ∙ is)))
      ∙ ap (λ b. cond b (as_data old blob) (Ok old)) (ap (λ k. bytes_eq k (codes "OSMData")) is ∙ bytes_same (codes "OSMData"))

  fault_blob : (before : List Blob) (old : Draft) (blob : Blob) → RawBytes blob → Headed laws before old → (d : ExtractFault) → HasBlobFault before blob d → with_blob old blob ≡ Err d
  fault_blob before old blob raw headed d (inl (is, h)) =
      ap (λ b. cond b (with_header old blob) (as_other old blob)) (ap (λ k. bytes_eq k (codes "OSMHeader")) is ∙ bytes_same (codes "OSMHeader"))
      ∙ then_fails (header_in blob.raw_at blob.raw) (λ so. Ok (record old { headed = true })) d (fault_header blob (raw (inl is)) d h)
  fault_blob before old blob raw headed d (inr (inl (is, none, fault))) =
      data_step old blob is ∙ ap (λ b. cond b (with_data old blob) (Err (faults.NoHeader blob.at))) (unheaded old.headed (λ e. none (headed.0 e))) ∙ err_up (faults.NoHeader blob.at) d (sym fault)
  fault_blob before old blob raw headed d (inr (inr (is, some, h))) =
      data_step old blob is ∙ ap (λ b. cond b (with_data old blob) (Err (faults.NoHeader blob.at))) (headed.1 some)
      ∙ then_fails (objects_in blob.raw_at blob.raw) (λ more. Ok (record old { objects = joined old.objects more })) d (fault_data blob (raw (inr is)) d h)

  -- ---- the end

  past_of : (objects : Objects) (what : Counted) (found : ℕ) → first_past (counts_of objects) ≡ Some (what, found) → IsFirstPast objects what found
  past_of objects what found e = by (find is_past (counts_of objects)) refl e
    where
      by : (o : Option Count) → find is_past (counts_of objects) ≡ o → option_map count_pair o ≡ some_pair what found → IsFirstPast objects what found
      by None h e = absurd (not_some {X = Counted × ℕ} (what, found) e)
      by (Some count) h e =
          let same : ◌≡◌ {A = Counted × ℕ} (count.what, count.found) (what, found) = some_one {X = Counted × ℕ} (count.what, count.found) (what, found) e in
          let first = found_is is_past (counts_of objects) count h in
          record {
            before = first.before;
            count = count;
            after = first.after;
            parts = first.parts;
            within = each_by (λ (c : Count). is_past c ≡ false) (λ (c : Count). c.found ≤ c.most) first.before within_is first.none;
            past = past_is count first.holds;
            what_is = ap (λ (p : Counted × ℕ). p.0) (sym same);
            found_is = ap (λ (p : Counted × ℕ). p.1) (sym same);
          }

  of_past : (objects : Objects) (what : Counted) (found : ℕ) → IsFirstPast objects what found → first_past (counts_of objects) ≡ Some (what, found)
  of_past objects what found h =
      let first = is_found is_past h.before h.count h.after (each_by (λ (c : Count). c.found ≤ c.most) (λ (c : Count). is_past c ≡ false) h.before is_within h.within) (is_past_so h.count h.past) in
      ap first_past h.parts ∙ ap (option_map count_pair) first
      ∙ ap (λ w. some_pair w h.count.found) (sym h.what_is) ∙ ap (some_pair what) (sym h.found_is)

  end_fault : (size : ℕ) (blobs : List Blob) (all : Objects) (draft : Draft) (d : ExtractFault) → Headed laws blobs draft → draft.objects ≡ all → EndsWith size draft d → HasEndFault size blobs all d
  end_fault size blobs all draft d headed same (inl h) = inl ((λ some. true_false (sym (headed.1 some) ∙ h.headless)), h.is)
  end_fault size blobs all draft d headed same (inr (inl h)) =
      inr (headed.0 h.headed, inl (h.kind, h.id, subst (λ (o : Objects). IsFirstTwice o h.kind h.id) same h.twice, h.is))
  end_fault size blobs all draft d headed same (inr (inr h)) =
      inr (headed.0 h.headed, inr (subst AreDistinct same h.distinct, (h.what, h.count, subst (λ (o : Objects). IsFirstPast o h.what h.count) same (past_of draft.objects h.what h.count h.past), h.is)))

  fault_end : (size : ℕ) (blobs : List Blob) (all : Objects) (draft : Draft) (d : ExtractFault) → Headed laws blobs draft → draft.objects ≡ all → HasEndFault size blobs all d → EndsWith size draft d
  fault_end size blobs all draft d headed same (inl (none, is)) = inl (record { headless = unheaded draft.headed (λ e. none (headed.0 e)); is = is })
  fault_end size blobs all draft d headed same (inr (some, inl (kind, id, twice, is))) =
      inr (inl (record { headed = headed.1 some; kind = kind; id = id; twice = subst (λ (o : Objects). IsFirstTwice o kind id) (sym same) twice; is = is }))
  fault_end size blobs all draft d headed same (inr (some, inr (distinct, (what, found, past, is)))) =
      inr (inr (record {
        headed = headed.1 some;
        distinct = subst AreDistinct (sym same) distinct;
        what = what;
        count = found;
        past = of_past draft.objects what found (subst (λ (o : Objects). IsFirstPast o what found) (sym same) past);
        is = is;
      }))

  -- ---- the whole file

  give : (blobs : List Blob) (draft : Draft) → with_blobs empty_draft blobs ≡ Ok draft → AllRaw blobs → BlobsGive laws [] empty_draft blobs draft
  give blobs draft grows raw = blobs_give laws [] empty_draft blobs draft raw (nothing_headed laws) grows

  bytes_fault : (bytes : List ℕ) (blobs : List Blob) (draft : Draft) (d : ExtractFault) (framing : PbfFault) → AreBytes bytes → with_blobs empty_draft blobs ≡ Ok draft
      → Frames bytes 0 blobs (Fails framing) → d ≡ framed_as framing → IsFaultyFile bytes d
  bytes_fault bytes blobs draft d framing are grows frames is =
      let s = split bytes 0 blobs (Fails framing) are frames in
      let all = give blobs draft grows s.raw in
      record {
        blobs = blobs;
        end = s.end;
        left = s.left;
        begins = s.begins;
        headers_first = all.headers_first;
        all = all.all;
        gives = all.gives;
        next = inl (framing, (fault_laws.causes s.end s.left s.are (Fails framing)).0 s.next, is);
      }

  next_fault : (bytes : List ℕ) (blobs : List Blob) (draft : Draft) (d : ExtractFault) (blob : Blob) → AreBytes bytes → with_blobs empty_draft blobs ≡ Ok draft
      → Frames bytes 0 blobs (Gives blob) → with_blob draft blob ≡ Err d → IsFaultyFile bytes d
  next_fault bytes blobs draft d blob are grows frames fails =
      let s = split bytes 0 blobs (Gives blob) are frames in
      let all = give blobs draft grows s.raw in
      let here = (fault_laws.causes s.end s.left s.are (Gives blob)).0 s.next in
      let raw = triple_bytes s.end here.triple blob (front_bytes s.left here.triple here.after s.are here.parts) here.is_triple in
      record {
        blobs = blobs;
        end = s.end;
        left = s.left;
        begins = s.begins;
        headers_first = all.headers_first;
        all = all.all;
        gives = all.gives;
        next = inr (inl (blob, here, blob_fault blobs draft blob raw all.headed d fails));
      }

  last_fault : (bytes : List ℕ) (blobs : List Blob) (draft : Draft) (d : ExtractFault) → AreBytes bytes → with_blobs empty_draft blobs ≡ Ok draft
      → Frames bytes 0 blobs Ends → EndsWith (length bytes) draft d → IsFaultyFile bytes d
  last_fault bytes blobs draft d are grows frames ends =
      let s = split bytes 0 blobs Ends are frames in
      let all = give blobs draft grows s.raw in
      record {
        blobs = blobs;
        end = s.end;
        left = s.left;
        begins = s.begins;
        headers_first = all.headers_first;
        all = all.all;
        gives = all.gives;
        next = inr (inr ((fault_laws.causes s.end s.left s.are Ends).0 s.next, end_fault (length bytes) blobs all.all draft d all.headed (all.objects_are ∙ none_joined laws all.all) ends));
      }

  pub fault_of_file : (bytes : List ℕ) → AreBytes bytes → (d : ExtractFault) → Refuses bytes d → IsFaultyFile bytes d
  fault_of_file bytes are d refuses =
      elim refuses.next [
        | inl h ↦ bytes_fault bytes refuses.blobs refuses.draft d h.0 are refuses.grows h.1 h.2
        | inr more ↦ elim more [
          | inl h ↦ next_fault bytes refuses.blobs refuses.draft d h.0 are refuses.grows h.1 h.2
          | inr h ↦ last_fault bytes refuses.blobs refuses.draft d are refuses.grows h.0 h.1
        ]
      ]

  grow : (blobs : List Blob) (all : Objects) → AllGive blobs all → HeadersFirst [] blobs → AllRaw blobs
      → (new : Draft) × (with_blobs empty_draft blobs ≡ Ok new) × (new.objects ≡ joined empty_draft.objects all) × Headed laws blobs new
  grow blobs all gives first raw = give_blobs laws [] empty_draft blobs all raw (nothing_headed laws) gives first

  fails_bytes : (bytes : List ℕ) (d : ExtractFault) (file : IsFaultyFile bytes d) (framing : PbfFault) → AreBytes bytes → MeansFault file.end file.left framing → d ≡ framed_as framing → Refuses bytes d
  fails_bytes bytes d file framing are cause is =
      let j = join bytes 0 file.blobs file.end file.left (Fails framing) are file.begins (λ left. (fault_laws.causes file.end file.left left (Fails framing)).1 cause) in
      let grown = grow file.blobs file.all file.gives file.headers_first j.raw in
      record { blobs = file.blobs; draft = grown.0; grows = grown.1; next = inl (framing, j.frames, is) }

  fails_next : (bytes : List ℕ) (d : ExtractFault) (file : IsFaultyFile bytes d) (blob : Blob) → AreBytes bytes → BeginsWithTriple file.end file.left blob → HasBlobFault file.blobs blob d → Refuses bytes d
  fails_next bytes d file blob are here fails =
      let j = join bytes 0 file.blobs file.end file.left (Gives blob) are file.begins (λ left. (fault_laws.causes file.end file.left left (Gives blob)).1 here) in
      let grown = grow file.blobs file.all file.gives file.headers_first j.raw in
      let raw = triple_bytes file.end here.triple blob (front_bytes file.left here.triple here.after j.are here.parts) here.is_triple in
      record { blobs = file.blobs; draft = grown.0; grows = grown.1; next = inr (inl (blob, j.frames, fault_blob file.blobs grown.0 blob raw grown.3 d fails)) }

  fails_last : (bytes : List ℕ) (d : ExtractFault) (file : IsFaultyFile bytes d) → AreBytes bytes → file.left ≡ [] → HasEndFault (length bytes) file.blobs file.all d → Refuses bytes d
  fails_last bytes d file are none ends =
      let j = join bytes 0 file.blobs file.end file.left Ends are file.begins (λ left. (fault_laws.causes file.end file.left left Ends).1 none) in
      let grown = grow file.blobs file.all file.gives file.headers_first j.raw in
      record { blobs = file.blobs; draft = grown.0; grows = grown.1; next = inr (inr (j.frames, fault_end (length bytes) file.blobs file.all grown.0 d grown.3 (grown.2 ∙ none_joined laws file.all) ends)) }

  pub file_of_fault : (bytes : List ℕ) → AreBytes bytes → (d : ExtractFault) → IsFaultyFile bytes d → Refuses bytes d
  file_of_fault bytes are d file =
      elim file.next [
        | inl h ↦ fails_bytes bytes d file h.0 are h.1 h.2
        | inr more ↦ elim more [
          | inl h ↦ fails_next bytes d file h.0 are h.1 h.2
          | inr h ↦ fails_last bytes d file are h.0 h.1
        ]
      ]
