-- For each file there is one reading.
use Rattle.std.proofs.Common.{◌≡◌, ◌⊎◌, inl, inr, ℕ, Bool, true, false, ℤ, List, [], ◌∷◌, ◌++◌, length, drop, Option, Some, None, Result, Ok, Err, refl, sym, ap, ◌∙◌, subst}
use Rattle.osm_model.specs.declared.relations.MemberKind.{MemberKind}
use Rattle.osm_model.specs.declared.relations.MemberKind.TheVariants as kinds
use Rattle.pbf_blobs.specs.declared.blob.Blob.{Blob}
use Rattle.pbf_blobs.specs.Next.{Outcome, Ends, Gives, Fails, next_of}
use Rattle.pbf_blobs.specs.Frames.{Frames, IsLast, IsFramed}
use Rattle.osm_objects.specs.Objects.{Objects}
use Rattle.osm_blocks.specs.declared.fault.Counted.{Counted}
use Rattle.osm_blocks.specs.declared.fault.ExtractFault.{ExtractFault}
use Rattle.osm_blocks.specs.declared.fault.ExtractFault.TheVariants as faults
use Rattle.osm_blocks.specs.Faults.{framed_as}
use Rattle.osm_blocks.specs.Order.{InOrder}
use Rattle.osm_blocks.specs.Counts.{counts_of, first_past}
use Rattle.osm_blocks.specs.Extracts.{◌>>=◌, Draft, empty_draft, with_blob, with_blobs, node_id, way_id, relation_id, AreDistinct, IsFirstTwice, EndsWith, IsFinished, Reading, Extracted, Refused, IsReading, IsRead}
use Rattle.osm_blocks.proofs.Twice.{in_order_unlike, least_not_unlike, least_one}
use Rattle.osm_blocks.proofs.Sorting.{ordered, in_order_one}
use Rattle.osm_blocks.proofs.Prefix.{with_more, ReadTo, ReadTo-none, ReadTo-next, ReadTo-fails}

-- ---- one end

not_both : (b : Bool) → b ≡ true → b ≡ false → ⊥
not_both b e f = both_ways (sym e ∙ f)
  where
    both_ways : true ≡ false → ⊥
    both_ways h = cc

-- the fault of the first id that stands twice
twice_one : (objects : Objects) (kind other : MemberKind) (id another : ℤ) → IsFirstTwice objects kind id → IsFirstTwice objects other another → faults.DuplicateId kind id ≡ faults.DuplicateId other another
twice_one o kinds.Node kinds.Node id another h k = ap (λ n. faults.DuplicateId kinds.Node n) (least_one node_id o.nodes id another h k)
twice_one o kinds.Node kinds.Way id another h k = absurd (least_not_unlike node_id o.nodes id h k.0)
twice_one o kinds.Node kinds.Relation id another h k = absurd (least_not_unlike node_id o.nodes id h k.0)
twice_one o kinds.Way kinds.Node id another h k = absurd (least_not_unlike node_id o.nodes another k h.0)
twice_one o kinds.Way kinds.Way id another h k = ap (λ n. faults.DuplicateId kinds.Way n) (least_one way_id o.ways id another h.1 k.1)
twice_one o kinds.Way kinds.Relation id another h k = absurd (least_not_unlike way_id o.ways id h.1 k.1)
twice_one o kinds.Relation kinds.Node id another h k = absurd (least_not_unlike node_id o.nodes another k h.0)
twice_one o kinds.Relation kinds.Way id another h k = absurd (least_not_unlike way_id o.ways another k.1 h.1)
twice_one o kinds.Relation kinds.Relation id another h k = ap (λ n. faults.DuplicateId kinds.Relation n) (least_one relation_id o.relations id another h.2 k.2)

twice_not_distinct : (objects : Objects) (kind : MemberKind) (id : ℤ) → IsFirstTwice objects kind id → AreDistinct objects → ⊥
twice_not_distinct o kinds.Node id h d = least_not_unlike node_id o.nodes id h d.nodes
twice_not_distinct o kinds.Way id h d = least_not_unlike way_id o.ways id h.1 d.ways
twice_not_distinct o kinds.Relation id h d = least_not_unlike relation_id o.relations id h.2 d.relations

many_one : (what other : Counted) (count another : ℕ) → ◌≡◌ {A = Option (Counted × ℕ)} (Some (what, count)) (Some (other, another)) → faults.TooMany what count ≡ faults.TooMany other another
many_one what other count another e = ap (λ (p : Counted × ℕ). faults.TooMany p.0 p.1) (inside e)
  where
    inside : {p q : Counted × ℕ} → ◌≡◌ {A = Option (Counted × ℕ)} (Some p) (Some q) → p ≡ q
    inside h = cc

ends_one : (size : ℕ) (draft : Draft) (fault other : ExtractFault) → EndsWith size draft fault → EndsWith size draft other → fault ≡ other
ends_one size draft fault other (inl h) (inl k) = h.is ∙ sym k.is
ends_one size draft fault other (inl h) (inr (inl k)) = absurd (not_both draft.headed k.headed h.headless)
ends_one size draft fault other (inl h) (inr (inr k)) = absurd (not_both draft.headed k.headed h.headless)
ends_one size draft fault other (inr (inl h)) (inl k) = absurd (not_both draft.headed h.headed k.headless)
ends_one size draft fault other (inr (inl h)) (inr (inl k)) = h.is ∙ twice_one draft.objects h.kind k.kind h.id k.id h.twice k.twice ∙ sym k.is
ends_one size draft fault other (inr (inl h)) (inr (inr k)) = absurd (twice_not_distinct draft.objects h.kind h.id h.twice k.distinct)
ends_one size draft fault other (inr (inr h)) (inl k) = absurd (not_both draft.headed h.headed k.headless)
ends_one size draft fault other (inr (inr h)) (inr (inl k)) = absurd (twice_not_distinct draft.objects k.kind k.id k.twice h.distinct)
ends_one size draft fault other (inr (inr h)) (inr (inr k)) = h.is ∙ many_one h.what k.what h.count k.count (sym h.past ∙ k.past) ∙ sym k.is

finished_one : (draft : Draft) (lists others : Objects) → IsFinished draft lists → IsFinished draft others → lists ≡ others
finished_one draft lists others h k =
    same (in_order_one node_id draft.objects.nodes lists.nodes others.nodes h.nodes k.nodes)
    (in_order_one way_id draft.objects.ways lists.ways others.ways h.ways k.ways)
    (in_order_one relation_id draft.objects.relations lists.relations others.relations h.relations k.relations)
  where
    same : {a b : Objects} → a.nodes ≡ b.nodes → a.ways ≡ b.ways → a.relations ≡ b.relations → a ≡ b
    same {a} {b} p q r =
        ap (λ ns. record { nodes = ns; ways = a.ways; relations = a.relations }) p
        ∙ ap (λ ws. record { nodes = b.nodes; ways = ws; relations = a.relations }) q
        ∙ ap (λ rs. record { nodes = b.nodes; ways = b.ways; relations = rs }) r

some_not_none : {A : Type 0} (x : A) (o : Option A) → o ≡ Some x → o ≡ None → ⊥
some_not_none x o e f = absurd_by (sym e ∙ f)
  where
    absurd_by : ◌≡◌ {A = Option _} (Some x) None → ⊥
    absurd_by h = cc

finished_or_ends : (size : ℕ) (draft : Draft) (lists : Objects) (fault : ExtractFault) → IsFinished draft lists → EndsWith size draft fault → ⊥
finished_or_ends size draft lists fault h (inl k) = not_both draft.headed h.headed k.headless
finished_or_ends size draft lists fault h (inr (inl k)) =
    twice_not_distinct draft.objects k.kind k.id k.twice (record {
      nodes = in_order_unlike node_id draft.objects.nodes lists.nodes h.nodes;
      ways = in_order_unlike way_id draft.objects.ways lists.ways h.ways;
      relations = in_order_unlike relation_id draft.objects.relations lists.relations h.relations;
    })
finished_or_ends size draft lists fault h (inr (inr k)) = some_not_none (k.what, k.count) (first_past (counts_of draft.objects)) k.past h.within

-- ---- what becomes of the whole file, by its blobs and what stands behind them

-- this reading follows from the blobs' draft or fault, and from what stands behind them
abbrev Follows : ℕ → Result Draft ExtractFault → Outcome → Reading → Type 0
Follows size (Err fault) outcome (Extracted lists) = ⊥
Follows size (Err fault) outcome (Refused other) = other ≡ fault
Follows size (Ok draft) Ends (Extracted lists) = IsFinished draft lists
Follows size (Ok draft) Ends (Refused fault) = EndsWith size draft fault
Follows size (Ok draft) (Gives blob) reading = ⊥
Follows size (Ok draft) (Fails framing) (Extracted lists) = ⊥
Follows size (Ok draft) (Fails framing) (Refused fault) = fault ≡ framed_as framing

follows_one : (size : ℕ) (grown : Result Draft ExtractFault) (outcome : Outcome) (reading other : Reading) → Follows size grown outcome reading → Follows size grown outcome other → reading ≡ other
follows_one size (Err fault) outcome (Extracted lists) other h k = absurd h
follows_one size (Err fault) outcome (Refused one) (Extracted lists) h k = absurd k
follows_one size (Err fault) outcome (Refused one) (Refused other) h k = ap (λ f. Refused f) (h ∙ sym k)
follows_one size (Ok draft) Ends (Extracted lists) (Extracted others) h k = ap (λ o. Extracted o) (finished_one draft lists others h k)
follows_one size (Ok draft) Ends (Extracted lists) (Refused fault) h k = absurd (finished_or_ends size draft lists fault h k)
follows_one size (Ok draft) Ends (Refused fault) (Extracted lists) h k = absurd (finished_or_ends size draft lists fault k h)
follows_one size (Ok draft) Ends (Refused fault) (Refused other) h k = ap (λ f. Refused f) (ends_one size draft fault other h k)
follows_one size (Ok draft) (Gives blob) reading other h k = absurd h
follows_one size (Ok draft) (Fails framing) (Extracted lists) other h k = absurd h
follows_one size (Ok draft) (Fails framing) (Refused fault) (Extracted lists) h k = absurd k
follows_one size (Ok draft) (Fails framing) (Refused fault) (Refused other) h k = ap (λ f. Refused f) (h ∙ sym k)

Frames-join : (bytes : List ℕ) (at : ℕ) (blobs rest : List Blob) (blob : Blob) (o : Outcome) → Frames bytes at blobs (Gives blob) → Frames bytes blob.end rest o → Frames bytes at (blobs ++ blob ∷ rest) o
Frames-join bytes at [] rest blob o frames next = (frames, next)
Frames-join bytes at (b ∷ blobs) rest blob o frames next = (frames.0, Frames-join bytes b.end blobs rest blob o frames.1 next)

-- what follows from other blobs and another outcome follows from the same ones
follows_same : (size : ℕ) (blobs others : List Blob) (o other : Outcome) (grown : Result Draft ExtractFault) (reading : Reading) → blobs ≡ others → o ≡ other → with_blobs empty_draft blobs ≡ grown → Follows size grown o reading → Follows size (with_blobs empty_draft others) other reading
follows_same size blobs others o other grown reading b e g h =
    subst (λ q. Follows size (with_blobs empty_draft others) q reading) e (subst (λ r. Follows size r o reading) (sym g ∙ ap (λ bs. with_blobs empty_draft bs) b) h)

refused_grown : (draft : Draft) (blobs rest : List Blob) (blob : Blob) (fault : ExtractFault) → with_blobs empty_draft blobs ≡ Ok draft → with_blob draft blob ≡ Err fault → with_blobs empty_draft (blobs ++ blob ∷ rest) ≡ Err fault
refused_grown draft blobs rest blob fault e f = with_more empty_draft blobs (blob ∷ rest) ∙ ap (λ r. r >>= λ d. with_blobs d (blob ∷ rest)) e ∙ ap (λ r. r >>= λ d. with_blobs d rest) f

-- the frames from the start on have one list of blobs and one last outcome
abbrev FramesOneWay : List ℕ → Type 0
FramesOneWay bytes =
    (blobs others : List Blob) (outcome other : Outcome) → IsLast outcome → IsLast other → Frames bytes 0 blobs outcome → Frames bytes 0 others other → (others ≡ blobs) × (other ≡ outcome)

reads_follows : (bytes : List ℕ) → ((at : ℕ) → IsFramed bytes at) → FramesOneWay bytes → (whole : IsFramed bytes 0) (reading : Reading) → IsReading bytes reading → Follows (length bytes) (with_blobs empty_draft whole.blobs) whole.outcome reading
reads_follows bytes framed way whole (Extracted lists) reads =
    let same = way whole.blobs reads.blobs whole.outcome Ends whole.last tt whole.frames reads.frames in
    follows_same (length bytes) reads.blobs whole.blobs Ends whole.outcome (Ok reads.draft) (Extracted lists) same.0 same.1 reads.grows reads.ends
reads_follows bytes framed way whole (Refused fault) reads =
    elim reads.next [
      | inl h ↦
          let same = way whole.blobs reads.blobs whole.outcome (Fails h.0) whole.last tt whole.frames h.1 in
          follows_same (length bytes) reads.blobs whole.blobs (Fails h.0) whole.outcome (Ok reads.draft) (Refused fault) same.0 same.1 reads.grows h.2
      | inr more ↦ elim more [
        | inl h ↦
            let rest = framed h.0.end in
            let blobs = reads.blobs ++ h.0 ∷ rest.blobs in
            let frames = Frames-join bytes 0 reads.blobs rest.blobs h.0 rest.outcome h.1 rest.frames in
            let same = way whole.blobs blobs whole.outcome rest.outcome whole.last rest.last whole.frames frames in
            follows_same (length bytes) blobs whole.blobs rest.outcome whole.outcome (Err fault) (Refused fault) same.0 same.1 (refused_grown reads.draft reads.blobs rest.blobs h.0 fault reads.grows h.2) refl
        | inr h ↦
            let same = way whole.blobs reads.blobs whole.outcome Ends whole.last tt whole.frames h.0 in
            follows_same (length bytes) reads.blobs whole.blobs Ends whole.outcome (Ok reads.draft) (Refused fault) same.0 same.1 reads.grows h.1
      ]
    ]

pub one_way : (bytes : List ℕ) → ((at : ℕ) → IsFramed bytes at) → FramesOneWay bytes → (one other : Reading) → IsReading bytes one → IsReading bytes other → one ≡ other
one_way bytes framed way one other reads also =
    let whole = framed 0 in
    follows_one (length bytes) (with_blobs empty_draft whole.blobs) whole.outcome one other (reads_follows bytes framed way whole one reads) (reads_follows bytes framed way whole other also)

-- ---- there is a reading

-- all kinds in order; or an id twice
arranged : (objects : Objects) → ((lists : Objects) × InOrder node_id objects.nodes lists.nodes × InOrder way_id objects.ways lists.ways × InOrder relation_id objects.relations lists.relations) ⊎ ((kind : MemberKind) × ((id : ℤ) × IsFirstTwice objects kind id))
arranged objects =
    elim (ordered node_id objects.nodes) [
      | inr n ↦ inr (kinds.Node, (n.0, n.1))
      | inl nodes ↦ elim (ordered way_id objects.ways) [
        | inr n ↦ inr (kinds.Way, (n.0, (in_order_unlike node_id objects.nodes nodes.0 nodes.1, n.1)))
        | inl ways ↦ elim (ordered relation_id objects.relations) [
          | inr n ↦ inr (kinds.Relation, (n.0, (in_order_unlike node_id objects.nodes nodes.0 nodes.1, in_order_unlike way_id objects.ways ways.0 ways.1, n.1)))
          | inl relations ↦ inl (record { nodes = nodes.0; ways = ways.0; relations = relations.0 }, nodes.1, ways.1, relations.1)
        ]
      ]
    ]

-- an end, whatever the draft
some_end : (size : ℕ) (draft : Draft) → ((lists : Objects) × IsFinished draft lists) ⊎ ((fault : ExtractFault) × EndsWith size draft fault)
some_end size draft = by_header draft.headed refl
  where
    by_past : draft.headed ≡ true → (lists : Objects) → InOrder node_id draft.objects.nodes lists.nodes → InOrder way_id draft.objects.ways lists.ways → InOrder relation_id draft.objects.relations lists.relations
        → (past : Option (Counted × ℕ)) → first_past (counts_of draft.objects) ≡ past → ((lists : Objects) × IsFinished draft lists) ⊎ ((fault : ExtractFault) × EndsWith size draft fault)
    by_past headed lists n w r None e = inl (lists, record { headed = headed; nodes = n; ways = w; relations = r; within = e })
    by_past headed lists n w r (Some (what, count)) e =
        inr (
          faults.TooMany what count,
          inr (inr (record {
            headed = headed;
            distinct = record { nodes = in_order_unlike node_id draft.objects.nodes lists.nodes n; ways = in_order_unlike way_id draft.objects.ways lists.ways w; relations = in_order_unlike relation_id draft.objects.relations lists.relations r };
            what = what;
            count = count;
            past = e;
            is = refl;
          })),
        )

    by_header : (b : Bool) → draft.headed ≡ b → ((lists : Objects) × IsFinished draft lists) ⊎ ((fault : ExtractFault) × EndsWith size draft fault)
    by_header false e = inr (faults.NoHeader size, inl (record { headless = e; is = refl }))
    by_header true e =
        elim (arranged draft.objects) [
          | inl o ↦ by_past e o.0 o.1 o.2 o.3 (first_past (counts_of draft.objects)) refl
          | inr t ↦ inr (faults.DuplicateId t.0 t.1.0, inr (inl (record { headed = e; kind = t.0; id = t.1.0; twice = t.1.1; is = refl })))
        ]

go_on : (bytes : List ℕ) (at : ℕ) (draft : Draft) (blobs : List Blob) (o : Outcome) → ReadTo bytes at draft → IsLast o → Frames bytes at blobs o → IsRead bytes
go_on bytes at draft [] Ends so_far last frames =
    elim (some_end (length bytes) draft) [
      | inl h ↦ record { reading = Extracted h.0; reads = record { blobs = so_far.blobs; draft = draft; frames = so_far.frames Ends frames; grows = so_far.grows; ends = h.1 } }
      | inr h ↦ record { reading = Refused h.0; reads = record { blobs = so_far.blobs; draft = draft; grows = so_far.grows; next = inr (inr (so_far.frames Ends frames, h.1)) } }
    ]
go_on bytes at draft [] (Gives blob) so_far last frames = absurd last
go_on bytes at draft [] (Fails framing) so_far last frames = record { reading = Refused (framed_as framing); reads = ReadTo-fails bytes at draft (framed_as framing) so_far (inl (framing, frames, refl)) }
go_on bytes at draft (blob ∷ blobs) o so_far last frames =
    grow_by bytes at draft blob so_far frames.0 (with_blob draft blob) refl (λ next so. go_on bytes blob.end next blobs o so last frames.1)
  where
    grow_by : (bytes : List ℕ) (at : ℕ) (draft : Draft) (blob : Blob) → ReadTo bytes at draft → next_of at (drop at bytes) ≡ Gives blob → (grown : Result Draft ExtractFault) → with_blob draft blob ≡ grown
        → ((next : Draft) → ReadTo bytes blob.end next → IsRead bytes) → IsRead bytes
    grow_by bytes at draft blob so next (Err fault) e rest = record { reading = Refused fault; reads = ReadTo-fails bytes at draft fault so (inr (blob, next, e)) }
    grow_by bytes at draft blob so next (Ok d) e rest = rest d (ReadTo-next bytes at blob draft d so next e)

pub is_read : (bytes : List ℕ) → ((at : ℕ) → IsFramed bytes at) → IsRead bytes
is_read bytes framed =
    let whole = framed 0 in
    go_on bytes 0 empty_draft whole.blobs whole.outcome (ReadTo-none bytes) whole.last whole.frames
