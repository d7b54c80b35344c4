-- The lists of a file that is read are those of an extract.
use Rattle.std.proofs.Common.{◌≡◌, ℕ, Bool, true, false, cond, List, [], ◌∷◌, Result, Ok, Err, refl, sym, ap, ◌∙◌, subst, All}
use Rattle.std.specs.Prelude.{codes}
use Rattle.std.specs.Str.{bytes_eq}
use Rattle.std.proofs.lemmas.List.Elements.{All-nil}
use Rattle.std.proofs.lemmas.List.Sorted.{All-permutation}
use Rattle.osm_model.specs.OsmNode.{IsPlaced}
use Rattle.osm_model.specs.declared.extract.Extract.{Extract}
use Rattle.pbf_blobs.specs.declared.blob.Blob.{Blob}
use Rattle.osm_messages.specs.Blocks.{Block, block_in}
use Rattle.osm_objects.specs.Objects.{Objects, joined, joined_behind, objects_of}
use Rattle.osm_objects.proofs.Placed.{all_placed}
use Rattle.osm_blocks.specs.declared.fault.ExtractFault.{ExtractFault}
use Rattle.osm_blocks.specs.declared.fault.ExtractFault.TheVariants as faults
use Rattle.osm_blocks.specs.Faults.{spelled_as, meant_as}
use Rattle.osm_blocks.specs.Extracts.{◌>>=◌, given, Draft, empty_draft, header_in, objects_in, with_header, with_data, with_blob, with_blobs, Reads, lists_of}
use Rattle.osm_blocks.specs.Counts.{first_past}
use Rattle.osm_blocks.specs.Steps.{AreInOrder}
use Rattle.osm_blocks.proofs.Limits.{are_within, counts_same}

ok_is : {A E : Type 0} (x y : A) → ◌≡◌ {A = Result A E} (Ok x) (Ok y) → x ≡ y
ok_is x y e = cc

parts : {A B : Type 0} (r : Result A ExtractFault) (f : A → Result B ExtractFault) (y : B) → (r >>= f) ≡ Ok y → (x : A) × (r ≡ Ok x) × (f x ≡ Ok y)
parts (Ok x) f y e = (x, refl, e)
parts (Err d) f y e = absurd cc

given_ok : {A F : Type 0} (as_fault : F → ExtractFault) (r : Result A F) (x : A) → given as_fault r ≡ Ok x → r ≡ Ok x
given_ok as_fault (Ok y) x e = ap (λ z. Ok z) (ok_is {E = ExtractFault} y x e)
given_ok as_fault (Err d) x e = absurd cc

abbrev Placed : Draft → Type 0
Placed draft = All IsPlaced draft.objects.nodes

data_placed : (draft next : Draft) (blob : Blob) → Placed draft → with_data draft blob ≡ Ok next → Placed next
data_placed draft next blob placed e =
    let more = parts (objects_in blob.raw_at blob.raw) (λ more. Ok (record draft { objects = joined draft.objects more })) next e in
    let block = parts (given spelled_as (block_in blob.raw_at blob.raw)) (λ block. given meant_as (objects_of blob.raw_at block)) more.0 more.1 in
    let objects = given_ok meant_as (objects_of blob.raw_at block.0) more.0 block.2 in
    subst Placed (ok_is {E = ExtractFault} (record draft { objects = joined draft.objects more.0 }) next more.2)
    (all_placed draft.objects (joined draft.objects more.0) blob.raw_at block.0 placed (ap (joined_behind draft.objects) objects))

header_placed : (draft next : Draft) (blob : Blob) → Placed draft → with_header draft blob ≡ Ok next → Placed next
header_placed draft next blob placed e =
    let so = parts (header_in blob.raw_at blob.raw) (λ so. Ok (record draft { headed = true })) next e in
    subst Placed (ok_is {E = ExtractFault} (record draft { headed = true }) next so.2) placed

blob_placed : (draft next : Draft) (blob : Blob) → Placed draft → with_blob draft blob ≡ Ok next → Placed next
blob_placed draft next blob placed e = by (bytes_eq blob.kind (codes "OSMHeader")) (bytes_eq blob.kind (codes "OSMData")) draft.headed e
  where
    by : (header data_ headed : Bool) → cond header (with_header draft blob) (cond data_ (cond headed (with_data draft blob) (Err (faults.NoHeader blob.at))) (Ok draft)) ≡ Ok next → Placed next
    by true data_ headed h = header_placed draft next blob placed h
    by false true true h = data_placed draft next blob placed h
    by false true false h = absurd cc
    by false false headed h = subst Placed (ok_is {E = ExtractFault} draft next h) placed

blobs_placed : (draft end : Draft) (blobs : List Blob) → Placed draft → with_blobs draft blobs ≡ Ok end → Placed end
blobs_placed draft end [] placed e = subst Placed (ok_is {E = ExtractFault} draft end e) placed
blobs_placed draft end (blob ∷ blobs) placed e =
    let next = parts (with_blob draft blob) (λ next. with_blobs next blobs) end e in
    blobs_placed next.0 end blobs (blob_placed draft next.0 blob placed next.1) next.2

pub is_extract : (bytes : List ℕ) (lists : Objects) → Reads bytes lists → (x : Extract) × (lists_of x ≡ lists)
is_extract bytes lists reads =
    let ends = reads.ends in
    let placed = All-permutation IsPlaced reads.draft.objects.nodes lists.nodes ends.nodes.same (blobs_placed empty_draft reads.draft reads.blobs (All-nil IsPlaced) reads.grows) in
    let order : AreInOrder reads.draft.objects lists = record { nodes = ends.nodes; ways = ends.ways; relations = ends.relations } in
    let within = are_within lists (ap first_past (counts_same reads.draft.objects lists order) ∙ ends.within) in (
      record {
        nodes = lists.nodes;
        ways = lists.ways;
        relations = lists.relations;
        nodes_rise = ends.nodes.rises;
        ways_rise = ends.ways.rises;
        relations_rise = ends.relations.rises;
        placed = placed;
        node_limit = within.node_limit;
        way_limit = within.way_limit;
        relation_limit = within.relation_limit;
        ref_limit = within.ref_limit;
        member_limit = within.member_limit;
        tag_limit = within.tag_limit;
      },
      refl,
    )
