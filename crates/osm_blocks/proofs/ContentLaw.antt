-- A file reads as lists exactly where it says them by the format.
use Rattle.std.proofs.Common.{◌≡◌, ◌⊎◌, ◌↔◌, inl, inr, ℕ, ◌<◌, ◌+◌, eqb, cond, not, ◌&&◌, ◌||◌, Bool, true, false, List, [], ◌∷◌, ◌++◌, length, drop, Option, Some, None, Result, Ok, Err, refl, sym, ap, ◌∙◌, subst, arith, append_assoc, length-append}
use Rattle.std.specs.Prelude.{codes}
use Rattle.std.specs.List.{AllByRecursion, find}
use Rattle.std.specs.Str.{bytes_eq}
use Rattle.std.specs.Int.{w32, to_be_bytes}
use Rattle.std.proofs.lemmas.Bool.{eqb-true}
use Rattle.std.proofs.lemmas.Bool.Decides.{nat_tests}
use Rattle.std.proofs.lemmas.List.{append-nil}
use Rattle.osm_model.specs.Extract.{AreWithin}
use Rattle.wire_read.specs.Varint.{AreBytes}
use Rattle.wire_read.specs.Fields.{Content, Varint, Fixed64, Bytes, Fixed32, WireField}
use Rattle.wire_read.proofs.Packed.{AreBytes-rest}
use Rattle.pbf_blobs.specs.declared.blob.Blob.{Blob}
use Rattle.pbf_blobs.specs.Triple.{IsTriple, IsBlob, IsRawBlob, AreTriples, IsKnownType, HoldsBytes, IsLastHeld}
use Rattle.pbf_blobs.specs.Next.{Ends}
use Rattle.pbf_blobs.specs.Frames.{Frames}
use Rattle.osm_messages.specs.declared.fault.MessageFault.{MessageFault}
use Rattle.osm_messages.specs.Blocks.{Block, block_in}
use Rattle.osm_messages.specs.Headers.{features_in}
use Rattle.osm_messages.specs.Means.{IsHeaderBlock, IsPrimitiveBlock}
use Rattle.osm_messages.proofs.Meant.{Each, InBytes, HoldsBytes as AreFieldBytes, holds_bytes, front_bytes}
use Rattle.osm_objects.specs.declared.fault.ObjectFault.{ObjectFault}
use Rattle.osm_objects.specs.Objects.{Objects, no_objects, joined, objects_of}
use Rattle.osm_objects.specs.Means.{HoldsOfOne, IsObjects}
use Rattle.osm_blocks.specs.declared.fault.ExtractFault.{ExtractFault}
use Rattle.osm_blocks.specs.declared.fault.ExtractFault.TheVariants as faults
use Rattle.osm_blocks.specs.Faults.{spelled_as, meant_as}
use Rattle.osm_blocks.specs.Features.{is_known, first_unknown, shown}
use Rattle.osm_blocks.specs.Order.{InOrder}
use Rattle.osm_blocks.specs.Counts.{counts_of, first_past}
use Rattle.osm_blocks.specs.Steps.{AreInOrder}
use Rattle.osm_blocks.specs.Extracts.{◌>>=◌, given, Draft, empty_draft, all_known, header_in, objects_in, with_header, with_data, with_blob, with_blobs, IsFinished, Reads, node_id, way_id, relation_id}
use Rattle.osm_blocks.specs.FileContent.{IsHeaderBlob, IsDataBlob, IsReadFeature, HasHeaderBlock, HasDataBlock, GivesBlob, AllGive, HeadersFirst, IsFileOf}
use Rattle.osm_blocks.proofs.Limits.{are_within, counts_same}
use Rattle.osm_blocks.proofs.WithinLimits.{none_past}

-- ---- results

ok_one : {A : Type 0} (x y : A) → ◌≡◌ {A = Result A ExtractFault} (Ok x) (Ok y) → x ≡ y
ok_one x y e = cc

not_ok : {A : Type 0} (f : ExtractFault) (y : A) → ◌≡◌ {A = Result A ExtractFault} (Err f) (Ok y) → ⊥
not_ok f y e = cc

two_parts : {A B : Type 0} (r : Result A ExtractFault) (f : A → Result B ExtractFault) (y : B) → (r >>= f) ≡ Ok y → (x : A) × (r ≡ Ok x) × (f x ≡ Ok y)
two_parts (Ok x) f y e = (x, refl, e)
two_parts (Err d) f y e = absurd (not_ok d y e)

then_so : {A B : Type 0} (r : Result A ExtractFault) (x : A) (f : A → Result B ExtractFault) (y : B) → r ≡ Ok x → f x ≡ Ok y → (r >>= f) ≡ Ok y
then_so r x f y e h = ap (λ q. q >>= f) e ∙ h

given_ok : {A F : Type 0} (as_fault : F → ExtractFault) (r : Result A F) (x : A) → given as_fault r ≡ Ok x → r ≡ Ok x
given_ok as_fault (Ok y) x e = ap (λ z. Ok z) (ok_one y x e)
given_ok as_fault (Err d) x e = absurd (not_ok (as_fault d) x e)

-- ---- bytes

pub same_bytes : (xs ys : List ℕ) → bytes_eq xs ys ≡ true → xs ≡ ys
same_bytes [] [] e = refl
same_bytes [] (y ∷ ys) e = absurd cc
same_bytes (x ∷ xs) [] e = absurd cc
same_bytes (x ∷ xs) (y ∷ ys) e = by (eqb x y) refl (same_bytes xs ys) e
  where
    by : (b : Bool) → eqb x y ≡ b → (bytes_eq xs ys ≡ true → xs ≡ ys) → (b && bytes_eq xs ys) ≡ true → x ∷ xs ≡ y ∷ ys
    by true h rest e = ap (λ a. a ∷ xs) (eqb-true x y h) ∙ ap (λ l. y ∷ l) (rest e)
    by false h rest e = absurd cc

same_test : (n : ℕ) → eqb n n ≡ true
same_test n = grind (arith, nat_tests)

pub bytes_same : (xs : List ℕ) → bytes_eq xs xs ≡ true
bytes_same [] = refl
bytes_same (x ∷ xs) = ap (λ b. b && bytes_eq xs xs) (same_test x) ∙ bytes_same xs

pub true_false : true ≡ false → ⊥
true_false e = cc

pub not_same : (xs ys : List ℕ) → bytes_eq xs ys ≡ false → xs ≡ ys → ⊥
not_same xs ys e same = true_false (sym (ap (λ l. bytes_eq l ys) same ∙ bytes_same ys) ∙ e)

pub differ : (xs ys : List ℕ) → (xs ≡ ys → ⊥) → bytes_eq xs ys ≡ false
differ xs ys never = by (bytes_eq xs ys) refl
  where
    by : (b : Bool) → bytes_eq xs ys ≡ b → bytes_eq xs ys ≡ false
    by true h = absurd (never (same_bytes xs ys h))
    by false h = h

-- ---- what is left of bytes is bytes

each_last : {A : Type 0} (P : A → Type 0) (before : List A) (x : A) (after : List A) → Each P (before ++ x ∷ after) → P x
each_last P [] x after all = all.0
each_last P (y ∷ before) x after all = each_last P before x after all.1

raw_bytes : (start : ℕ) (bytes : List ℕ) (raw_at : ℕ) (raw : List ℕ) → AreBytes bytes → IsRawBlob start bytes raw_at raw → AreBytes raw
raw_bytes start bytes raw_at raw are is =
    let p = is.payload in
    let all = subst (λ (fields : List WireField). Each AreFieldBytes fields) p.parts (holds_bytes bytes start is.fields are is.spells) in
    subst InBytes p.holds.2 (each_last AreFieldBytes p.before p.field p.after all)

-- a payload that is read is bytes
abbrev pub RawBytes : Blob → Type 0
RawBytes blob = IsKnownType blob.kind → AreBytes blob.raw

pub triple_bytes : (at : ℕ) (bytes : List ℕ) (blob : Blob) → AreBytes bytes → IsTriple at bytes blob → RawBytes blob
triple_bytes at bytes blob are is known =
    let body = AreBytes-rest bytes (to_be_bytes w32 (length is.header) ++ is.header) is.body are is.parts in
    by blob.known (is.known.1 known) body is.is_blob
  where
    by : (k : Bool) → k ≡ true → AreBytes is.body → IsBlob k (at + 4 + length is.header) is.body blob.raw_at blob.raw → AreBytes blob.raw
    by true e body blob_is = raw_bytes (at + 4 + length is.header) is.body blob.raw_at blob.raw body blob_is
    by false e body blob_is = absurd (true_false (sym e))

abbrev pub AllRaw : List Blob → Type 0
AllRaw blobs = AllByRecursion RawBytes blobs

triples_bytes : (at : ℕ) (bytes : List ℕ) (blobs : List Blob) → AreBytes bytes → AreTriples at bytes blobs → AllRaw blobs
triples_bytes at bytes [] are none = tt
triples_bytes at bytes (blob ∷ blobs) are (triple, rest, is, split, more) =
    (triple_bytes at triple blob (front_bytes bytes triple rest are split) is, triples_bytes blob.end rest blobs (AreBytes-rest bytes triple rest are split) more)

-- ---- headers

pub read_feature : (feature : ℕ × List ℕ) → not (is_known feature.1) ≡ false → IsReadFeature feature
read_feature feature e = by (bytes_eq feature.1 (codes "OsmSchema-V0.6")) refl e
  where
    other : (b : Bool) → bytes_eq feature.1 (codes "DenseNodes") ≡ b → not b ≡ false → IsReadFeature feature
    other true h e = inr (same_bytes feature.1 (codes "DenseNodes") h)
    other false h e = absurd (true_false e)

    by : (b : Bool) → bytes_eq feature.1 (codes "OsmSchema-V0.6") ≡ b → not (b || bytes_eq feature.1 (codes "DenseNodes")) ≡ false → IsReadFeature feature
    by true h e = inl (same_bytes feature.1 (codes "OsmSchema-V0.6") h)
    by false h e = other (bytes_eq feature.1 (codes "DenseNodes")) refl e

pub feature_read : (feature : ℕ × List ℕ) → IsReadFeature feature → not (is_known feature.1) ≡ false
feature_read feature (inl e) = ap (λ b. not (b || bytes_eq feature.1 (codes "DenseNodes"))) (ap (λ l. bytes_eq l (codes "OsmSchema-V0.6")) e ∙ bytes_same (codes "OsmSchema-V0.6"))
feature_read feature (inr e) = by (bytes_eq feature.1 (codes "OsmSchema-V0.6")) (ap (λ l. bytes_eq l (codes "DenseNodes")) e ∙ bytes_same (codes "DenseNodes"))
  where
    by : (b : Bool) → bytes_eq feature.1 (codes "DenseNodes") ≡ true → not (b || bytes_eq feature.1 (codes "DenseNodes")) ≡ false
    by true h = refl
    by false h = ap not h

abbrev pub unknown : ℕ × List ℕ → Bool
unknown feature = not (is_known feature.1)

pub features_known : (features : List (ℕ × List ℕ)) → find unknown features ≡ None → AllByRecursion IsReadFeature features
features_known [] e = tt
features_known (feature ∷ features) e = by (unknown feature) refl (features_known features) e
  where
    by : (b : Bool) → unknown feature ≡ b → (find unknown features ≡ None → AllByRecursion IsReadFeature features) → cond b (Some feature) (find unknown features) ≡ None → AllByRecursion IsReadFeature (feature ∷ features)
    by true h rest e = absurd cc
    by false h rest e = (read_feature feature h, rest e)

pub known_features : (features : List (ℕ × List ℕ)) → AllByRecursion IsReadFeature features → find unknown features ≡ None
known_features [] all = refl
known_features (feature ∷ features) all = ap (λ b. cond b (Some feature) (find unknown features)) (feature_read feature all.0) ∙ known_features features all.1

nothing_unknown : (o : Option (ℕ × List ℕ)) (u : Unit {0}) → all_known o ≡ Ok u → o ≡ None
nothing_unknown None u e = refl
nothing_unknown (Some feature) u e = absurd (not_ok (faults.Feature feature.0 (shown feature.1)) u e)

-- ---- the laws of the layers below

abbrev pub HeaderLaw : Type 0
HeaderLaw = (at : ℕ) (bytes : List ℕ) → AreBytes bytes → (features : List (ℕ × List ℕ)) → (features_in at bytes ≡ Ok features) ↔ IsHeaderBlock at bytes features

abbrev pub BlockLaw : Type 0
BlockLaw = (at : ℕ) (bytes : List ℕ) → AreBytes bytes → (block : Block) → (block_in at bytes ≡ Ok block) ↔ IsPrimitiveBlock at bytes block

abbrev pub ObjectLaw : Type 0
ObjectLaw = (at : ℕ) (bytes : List ℕ) → AreBytes bytes → (block : Block) → IsPrimitiveBlock at bytes block → (objects : Objects) → (objects_of at block ≡ Ok objects) ↔ IsObjects block objects

abbrev pub TriplesLaw : Type 0
TriplesLaw = (bytes : List ℕ) → AreBytes bytes → (at : ℕ) (blobs : List Blob) → Frames bytes at blobs Ends ↔ AreTriples at (drop at bytes) blobs

pub record Laws : Type 0 where
  pub header : HeaderLaw
  pub block : BlockLaw
  pub objects : ObjectLaw
  pub triples : TriplesLaw

module _ (laws : Laws) where
  header_block : (blob : Blob) → AreBytes blob.raw → (u : Unit {0}) → header_in blob.raw_at blob.raw ≡ Ok u → HasHeaderBlock blob
  header_block blob are u e =
      let p = two_parts (given spelled_as (features_in blob.raw_at blob.raw)) (λ features. all_known (first_unknown features)) u e in
      record {
        features = p.0;
        is_header = (laws.header blob.raw_at blob.raw are p.0).0 (given_ok spelled_as (features_in blob.raw_at blob.raw) p.0 p.1);
        read = features_known p.0 (nothing_unknown (first_unknown p.0) u p.2);
      }

  block_header : (blob : Blob) → AreBytes blob.raw → HasHeaderBlock blob → header_in blob.raw_at blob.raw ≡ Ok tt
  block_header blob are has =
      then_so (given spelled_as (features_in blob.raw_at blob.raw)) has.features (λ features. all_known (first_unknown features)) tt
      (ap (given spelled_as) ((laws.header blob.raw_at blob.raw are has.features).1 has.is_header))
      (ap all_known (known_features has.features has.read))

  data_block : (blob : Blob) → AreBytes blob.raw → (objects : Objects) → objects_in blob.raw_at blob.raw ≡ Ok objects → HasDataBlock blob objects
  data_block blob are objects e =
      let p = two_parts (given spelled_as (block_in blob.raw_at blob.raw)) (λ block. given meant_as (objects_of blob.raw_at block)) objects e in
      let is = (laws.block blob.raw_at blob.raw are p.0).0 (given_ok spelled_as (block_in blob.raw_at blob.raw) p.0 p.1) in
      record { block = p.0; is_block = is; means = (laws.objects blob.raw_at blob.raw are p.0 is objects).0 (given_ok meant_as (objects_of blob.raw_at p.0) objects p.2) }

  block_data : (blob : Blob) → AreBytes blob.raw → (objects : Objects) → HasDataBlock blob objects → objects_in blob.raw_at blob.raw ≡ Ok objects
  block_data blob are objects has =
      then_so (given spelled_as (block_in blob.raw_at blob.raw)) has.block (λ block. given meant_as (objects_of blob.raw_at block)) objects
      (ap (given spelled_as) ((laws.block blob.raw_at blob.raw are has.block).1 has.is_block))
      (ap (given meant_as) ((laws.objects blob.raw_at blob.raw are has.block has.is_block objects).1 has.means))

  -- ---- blob by blob

  -- the draft behind a blob: whether a header came, and the objects of all blobs
  record BlobGives (old : Draft) (blob : Blob) (new : Draft) : Type 0 where
    given : Objects
    gives : GivesBlob blob given
    objects_are : new.objects ≡ joined old.objects given
    data_headed : IsDataBlob blob → old.headed ≡ true
    headed_is : (new.headed ≡ true) ↔ ((old.headed ≡ true) ⊎ IsHeaderBlob blob)

  same_objects : (a b : Objects) → a.nodes ≡ b.nodes → a.ways ≡ b.ways → a.relations ≡ b.relations → a ≡ b
  same_objects a b p q r =
      ap (λ ns. record { nodes = ns; ways = a.ways; relations = a.relations }) p
      ∙ ap (λ ws. record { nodes = b.nodes; ways = ws; relations = a.relations }) q
      ∙ ap (λ rs. record { nodes = b.nodes; ways = b.ways; relations = rs }) r

  joined_none : (a : Objects) → joined a no_objects ≡ a
  joined_none a = same_objects (joined a no_objects) a (append-nil a.nodes) (append-nil a.ways) (append-nil a.relations)

  pub none_joined : (a : Objects) → joined no_objects a ≡ a
  none_joined a = same_objects (joined no_objects a) a refl refl refl

  joined_twice : (a b c : Objects) → joined (joined a b) c ≡ joined a (joined b c)
  joined_twice a b c = same_objects (joined (joined a b) c) (joined a (joined b c)) (append_assoc a.nodes b.nodes c.nodes) (append_assoc a.ways b.ways c.ways) (append_assoc a.relations b.relations c.relations)

  pub types_differ : codes "OSMHeader" ≡ codes "OSMData" → ⊥
  types_differ e = cc

  blob_gives : (old : Draft) (blob : Blob) (new : Draft) → RawBytes blob → with_blob old blob ≡ Ok new → BlobGives old blob new
  blob_gives old blob new raw e = by (bytes_eq blob.kind (codes "OSMHeader")) refl e
    where
      as_data : IsDataBlob blob → (IsHeaderBlob blob → ⊥) → (b : Bool) → old.headed ≡ b → cond b (with_data old blob) (Err (faults.NoHeader blob.at)) ≡ Ok new → BlobGives old blob new
      as_data is other true h e =
          let p = two_parts (objects_in blob.raw_at blob.raw) (λ more. Ok (record old { objects = joined old.objects more })) new e in
          let so = ok_one (record old { objects = joined old.objects p.0 }) new p.2 in
          record {
            given = p.0;
            gives = inr (inl (is, data_block blob (raw (inr is)) p.0 p.1));
            objects_are = ap (λ (d : Draft). d.objects) (sym so);
            data_headed = λ is. h;
            headed_is = (λ e. inl h, λ e. ap (λ (d : Draft). d.headed) (sym so) ∙ h);
          }
      as_data is other false h e = absurd (not_ok (faults.NoHeader blob.at) new e)

      as_other : (IsHeaderBlob blob → ⊥) → (b : Bool) → bytes_eq blob.kind (codes "OSMData") ≡ b → cond b (cond old.headed (with_data old blob) (Err (faults.NoHeader blob.at))) (Ok old) ≡ Ok new → BlobGives old blob new
      as_other other true h e = as_data (same_bytes blob.kind (codes "OSMData") h) other old.headed refl e
      as_other other false h e =
          let so = ok_one old new e in
          record {
            given = no_objects;
            gives = inr (inr (other, not_same blob.kind (codes "OSMData") h, refl));
            objects_are = ap (λ (d : Draft). d.objects) (sym so) ∙ sym (joined_none old.objects);
            data_headed = λ is. absurd (not_same blob.kind (codes "OSMData") h is);
            headed_is = (λ e. inl (ap (λ (d : Draft). d.headed) so ∙ e), λ w. elim w [ inl g ↦ ap (λ (d : Draft). d.headed) (sym so) ∙ g | inr g ↦ absurd (other g) ]);
          }

      by : (b : Bool) → bytes_eq blob.kind (codes "OSMHeader") ≡ b → cond b (with_header old blob) (cond (bytes_eq blob.kind (codes "OSMData")) (cond old.headed (with_data old blob) (Err (faults.NoHeader blob.at))) (Ok old)) ≡ Ok new → BlobGives old blob new
      by true h e =
          let is = same_bytes blob.kind (codes "OSMHeader") h in
          let p = two_parts (header_in blob.raw_at blob.raw) (λ so. Ok (record old { headed = true })) new e in
          let so = ok_one (record old { headed = true }) new p.2 in
          record {
            given = no_objects;
            gives = inl (is, header_block blob (raw (inl is)) p.0 p.1, refl);
            objects_are = ap (λ (d : Draft). d.objects) (sym so) ∙ sym (joined_none old.objects);
            data_headed = λ data_is. absurd (types_differ (sym is ∙ data_is));
            headed_is = (λ e. inr is, λ w. ap (λ (d : Draft). d.headed) (sym so));
          }
      by false h e = as_other (not_same blob.kind (codes "OSMHeader") h) (bytes_eq blob.kind (codes "OSMData")) refl e

  -- the other way round
  gives_blob : (old : Draft) (blob : Blob) (given : Objects) → RawBytes blob → GivesBlob blob given → (IsDataBlob blob → old.headed ≡ true)
      → (new : Draft) × (with_blob old blob ≡ Ok new) × (new.objects ≡ joined old.objects given) × ((new.headed ≡ true) ↔ ((old.headed ≡ true) ⊎ IsHeaderBlob blob))
  gives_blob old blob given raw (inl (is, has, none)) headed = (
    record old { headed = true },
    ap (λ b. cond b (with_header old blob) (cond (bytes_eq blob.kind (codes "OSMData")) (cond old.headed (with_data old blob) (Err (faults.NoHeader blob.at))) (Ok old))) (ap (λ k. bytes_eq k (codes "OSMHeader")) is ∙ bytes_same (codes "OSMHeader"))
        ∙ then_so (header_in blob.raw_at blob.raw) tt (λ so. Ok (record old { headed = true })) (record old { headed = true }) (block_header blob (raw (inl is)) has) refl,
    sym (joined_none old.objects) ∙ ap (joined old.objects) (sym none),
    (λ e. inr is, λ w. refl),
  )
  gives_blob old blob given raw (inr (inl (is, has))) headed =
      let other : bytes_eq blob.kind (codes "OSMHeader") ≡ false = differ blob.kind (codes "OSMHeader") (λ e. types_differ (sym e ∙ is)) in
      let new : Draft = record old { objects = joined old.objects given } in (
        new,
        ap (λ b. cond b (with_header old blob) (cond (bytes_eq blob.kind (codes "OSMData")) (cond old.headed (with_data old blob) (Err (faults.NoHeader blob.at))) (Ok old))) other
            ∙ ap (λ b. cond b (cond old.headed (with_data old blob) (Err (faults.NoHeader blob.at))) (Ok old)) (ap (λ k. bytes_eq k (codes "OSMData")) is ∙ bytes_same (codes "OSMData"))
            ∙ ap (λ b. cond b (with_data old blob) (Err (faults.NoHeader blob.at))) (headed is)
            ∙ then_so (objects_in blob.raw_at blob.raw) given (λ more. Ok (record old { objects = joined old.objects more })) new (block_data blob (raw (inr is)) given has) refl,
        refl,
        (λ e. inl e, λ w. headed is),
      )
  gives_blob old blob given raw (inr (inr (other, also, none))) headed = (
    old,
    ap (λ b. cond b (with_header old blob) (cond (bytes_eq blob.kind (codes "OSMData")) (cond old.headed (with_data old blob) (Err (faults.NoHeader blob.at))) (Ok old))) (differ blob.kind (codes "OSMHeader") other)
        ∙ ap (λ b. cond b (cond old.headed (with_data old blob) (Err (faults.NoHeader blob.at))) (Ok old)) (differ blob.kind (codes "OSMData") also),
    sym (joined_none old.objects) ∙ ap (joined old.objects) (sym none),
    (λ e. inl e, λ w. elim w [ inl e ↦ e | inr e ↦ absurd (other e) ]),
  )

  -- ---- all blobs

  some_left : (before : List Blob) (blob : Blob) → HoldsOfOne IsHeaderBlob before → HoldsOfOne IsHeaderBlob (before ++ blob ∷ [])
  some_left [] blob some = absurd some
  some_left (x ∷ before) blob (inl p) = inl p
  some_left (x ∷ before) blob (inr p) = inr (some_left before blob p)

  some_last : (before : List Blob) (blob : Blob) → IsHeaderBlob blob → HoldsOfOne IsHeaderBlob (before ++ blob ∷ [])
  some_last [] blob is = inl is
  some_last (x ∷ before) blob is = inr (some_last before blob is)

  some_which : (before : List Blob) (blob : Blob) → HoldsOfOne IsHeaderBlob (before ++ blob ∷ []) → HoldsOfOne IsHeaderBlob before ⊎ IsHeaderBlob blob
  some_which [] blob (inl p) = inr p
  some_which [] blob (inr p) = absurd p
  some_which (x ∷ before) blob (inl p) = inl (inl p)
  some_which (x ∷ before) blob (inr p) = elim (some_which before blob p) [ inl h ↦ inl (inr h) | inr h ↦ inr h ]

  -- a header came exactly where one is among the blobs before
  abbrev pub Headed : List Blob → Draft → Type 0
  Headed before draft = (draft.headed ≡ true) ↔ HoldsOfOne IsHeaderBlob before

  next_headed : (before : List Blob) (old new : Draft) (blob : Blob) → Headed before old → (new.headed ≡ true) ↔ ((old.headed ≡ true) ⊎ IsHeaderBlob blob) → Headed (before ++ blob ∷ []) new
  next_headed before old new blob headed is = (
    λ e. elim (is.0 e) [ inl h ↦ some_left before blob (headed.0 h) | inr h ↦ some_last before blob h ],
    λ some. elim (some_which before blob some) [ inl h ↦ is.1 (inl (headed.1 h)) | inr h ↦ is.1 (inr h) ],
  )

  pub record BlobsGive (before : List Blob) (old : Draft) (blobs : List Blob) (new : Draft) : Type 0 where
    pub all : Objects
    pub gives : AllGive blobs all
    pub objects_are : new.objects ≡ joined old.objects all
    pub headers_first : HeadersFirst before blobs
    pub headed : Headed (before ++ blobs) new

  pub blobs_give : (before : List Blob) (old : Draft) (blobs : List Blob) (new : Draft) → AllRaw blobs → Headed before old → with_blobs old blobs ≡ Ok new → BlobsGive before old blobs new
  blobs_give before old [] new raw headed e =
      let so = ok_one old new e in
      record {
        all = no_objects;
        gives = refl;
        objects_are = ap (λ (d : Draft). d.objects) (sym so) ∙ sym (joined_none old.objects);
        headers_first = tt;
        headed = subst (Headed (before ++ [])) so (subst (λ (l : List Blob). Headed l old) (sym (append-nil before)) headed);
      }
  blobs_give before old (blob ∷ blobs) new raw headed e =
      let p = two_parts (with_blob old blob) (λ next. with_blobs next blobs) new e in
      let one = blob_gives old blob p.0 raw.0 p.1 in
      let rest = blobs_give (before ++ blob ∷ []) p.0 blobs new raw.1 (next_headed before old p.0 blob headed one.headed_is) p.2 in
      record {
        all = joined one.given rest.all;
        gives = (one.given, rest.all, one.gives, refl, rest.gives);
        objects_are = rest.objects_are ∙ ap (λ o. joined o rest.all) one.objects_are ∙ joined_twice old.objects one.given rest.all;
        headers_first = (λ is. headed.0 (one.data_headed is), rest.headers_first);
        headed = subst (λ (l : List Blob). Headed l new) (append_assoc before (blob ∷ []) blobs) rest.headed;
      }

  pub give_blobs : (before : List Blob) (old : Draft) (blobs : List Blob) (all : Objects) → AllRaw blobs → Headed before old → AllGive blobs all → HeadersFirst before blobs
      → (new : Draft) × (with_blobs old blobs ≡ Ok new) × (new.objects ≡ joined old.objects all) × Headed (before ++ blobs) new
  give_blobs before old [] all raw headed none first =
      (old, refl, sym (joined_none old.objects) ∙ ap (joined old.objects) (sym none), subst (λ (l : List Blob). Headed l old) (sym (append-nil before)) headed)
  give_blobs before old (blob ∷ blobs) all raw headed (given, others, gives, whole, rest) first =
      let one = gives_blob old blob given raw.0 gives (λ is. headed.1 (first.0 is)) in
      let more = give_blobs (before ++ blob ∷ []) one.0 blobs others raw.1 (next_headed before old one.0 blob headed one.3) rest first.1 in (
        more.0,
        then_so (with_blob old blob) one.0 (λ next. with_blobs next blobs) more.0 one.1 more.1,
        more.2 ∙ ap (λ o. joined o others) one.2 ∙ joined_twice old.objects given others ∙ ap (joined old.objects) (sym whole),
        subst (λ (l : List Blob). Headed l more.0) (append_assoc before (blob ∷ []) blobs) more.3,
      )

  -- ---- the whole file

  pub nothing_headed : Headed [] empty_draft
  nothing_headed = (λ e. true_false (sym e), λ some. absurd some)

  pub file_of : (bytes : List ℕ) → AreBytes bytes → (lists : Objects) → Reads bytes lists → IsFileOf bytes lists
  file_of bytes are lists reads =
      let triples : AreTriples 0 bytes reads.blobs = (laws.triples bytes are 0 reads.blobs).0 reads.frames in
      let all = blobs_give [] empty_draft reads.blobs reads.draft (triples_bytes 0 bytes reads.blobs are triples) nothing_headed reads.grows in
      let same : reads.draft.objects ≡ all.all = all.objects_are ∙ none_joined all.all in
      let ends = reads.ends in
      let order : AreInOrder reads.draft.objects lists = record { nodes = ends.nodes; ways = ends.ways; relations = ends.relations } in
      record {
        blobs = reads.blobs;
        triples = triples;
        headed = all.headed.0 ends.headed;
        headers_first = all.headers_first;
        all = all.all;
        gives = all.gives;
        nodes = subst (λ (o : Objects). InOrder node_id o.nodes lists.nodes) same ends.nodes;
        ways = subst (λ (o : Objects). InOrder way_id o.ways lists.ways) same ends.ways;
        relations = subst (λ (o : Objects). InOrder relation_id o.relations lists.relations) same ends.relations;
        within = are_within lists (ap first_past (counts_same reads.draft.objects lists order) ∙ ends.within);
      }

  pub reads_of : (bytes : List ℕ) → AreBytes bytes → (lists : Objects) → IsFileOf bytes lists → Reads bytes lists
  reads_of bytes are lists file =
      let raw = triples_bytes 0 bytes file.blobs are file.triples in
      let grown = give_blobs [] empty_draft file.blobs file.all raw nothing_headed file.gives file.headers_first in
      let same : file.all ≡ grown.0.objects = sym (grown.2 ∙ none_joined file.all) in
      let nodes = subst (λ (o : Objects). InOrder node_id o.nodes lists.nodes) same file.nodes in
      let ways = subst (λ (o : Objects). InOrder way_id o.ways lists.ways) same file.ways in
      let relations = subst (λ (o : Objects). InOrder relation_id o.relations lists.relations) same file.relations in
      let order : AreInOrder grown.0.objects lists = record { nodes = nodes; ways = ways; relations = relations } in
      record {
        blobs = file.blobs;
        draft = grown.0;
        frames = (laws.triples bytes are 0 file.blobs).1 file.triples;
        grows = grown.1;
        ends = record {
          headed = grown.3.1 file.headed;
          nodes = nodes;
          ways = ways;
          relations = relations;
          within = ap first_past (sym (counts_same grown.0.objects lists order)) ∙ none_past lists file.within;
        };
      }
