-- The buckets of an index of nodes: how their starts grow, node by node, and where an id may stand.
use Rattle.std.proofs.Common.{◌≡◌, ◌⊎◌, ℕ, ◌+◌, ◌-◌, ◌<◌, ◌≤◌, refl, sym, ap, ◌∙◌, subst, Some, List, [], ◌∷◌, ◌++◌, length, length-append, get_or, replicate, ℤ, ◌-ℤ◌, ◌≤ℤ◌, false, inl, inr, arith, rules, ◌^◌, w64, FitsSigned}
use Rattle.std.specs.Prelude.{◌<ℤ◌, ◌↔◌, unsigned_abs, slice_get}
use Rattle.std.specs.Ordering.{int_eq}
use Rattle.std.specs.Cmp.{signed_Decides}
use Rattle.std.proofs.Math.Pow.{shr_mono}
use Rattle.std.proofs.lemmas.Nat.{shr_below}
use Rattle.std.proofs.lemmas.Int.{ints}
use Rattle.std.proofs.lemmas.Bool.{false_from_ne_true, cases_lt}
use Rattle.std.proofs.lemmas.List.{get_or_default, get_or_append_left, get_or-append_right, get_or-replicate, length-replicate}
use Rattle.std.proofs.lemmas.Option.{get_or_from_slice_get}
use Rattle.std.proofs.lemmas.List.Folds.{list_any_none}
use Rattle.osm_model.specs.declared.nodes.OsmNode.{OsmNode}
use Rattle.osm_model.specs.Extract.{NodesRise}
use Rattle.road_pieces.specs.Runs.{has_node}
use Rattle.road_pieces.specs.Lines.{no_node}
use Rattle.road_pieces.specs.NodeIndex.{bucket_of, BeginsAt, TakesBuckets, IsIndex, OnlyWithin}

-- a larger id lies as far from the first, or farther
farther : (first a b : ℤ) → first ≤ℤ a → a ≤ℤ b → unsigned_abs (a -ℤ first) ≤ unsigned_abs (b -ℤ first)
farther first a b h k = omega (arith, ints)

-- buckets rise with ids
bucket_rises : (first a b : ℤ) (shift : ℕ) → first ≤ℤ a → a ≤ℤ b → bucket_of first shift a ≤ bucket_of first shift b
bucket_rises first a b shift h k = shr_mono shift (farther first a b h k)

below_least : (a b : ℤ) → a <ℤ b → a ≤ℤ b
below_least a b h = omega (arith, ints)

not_below_itself : (a : ℤ) → a ≤ℤ a
not_below_itself a = omega (arith, ints)

-- the first of rising ids is the least
pub begins_first : (nodes : List OsmNode) (first : ℤ) → NodesRise nodes → ((d : OsmNode) → first ≡ (get_or nodes 0 d).id) → BeginsAt nodes first
begins_first nodes first rise is = record {
  first_is = λ d h. sym (is d);
  none_below = λ k e h.
      elim (cases_lt 0 k) [
        | inl later ↦ below_least _ _ (subst (λ i. i <ℤ (get_or nodes k e).id) (sym (is e)) (rise 0 k e later h))
        | inr at ↦ let z : 0 ≡ k = omega arith in
            subst (λ j. first ≤ℤ (get_or nodes j e).id) z (subst (λ i. first ≤ℤ i) (is e) (not_below_itself first))
      ];
}

-- where no node is, any id may be the first
pub begins_nowhere : (nodes : List OsmNode) (first : ℤ) → length nodes ≡ 0 → BeginsAt nodes first
begins_nowhere nodes first e = record { first_is = λ d h. absurd (omega arith); none_below = λ k d h. absurd (omega arith) }

-- where the last node has few buckets below its own, so has each
pub takes_all : (nodes : List OsmNode) (first : ℤ) (shift : ℕ) (last : ℤ) → BeginsAt nodes first → NodesRise nodes → ((d : OsmNode) → last ≡ (get_or nodes (length nodes - 1) d).id) → bucket_of first shift last < length nodes → TakesBuckets nodes first shift (length nodes)
takes_all nodes first shift last begins rise is few = record {
  few = λ k d h.
      let top : bucket_of first shift (get_or nodes (length nodes - 1) d).id ≡ bucket_of first shift last = ap (bucket_of first shift) (sym (is d)) in
      elim (cases_lt k (length nodes - 1)) [
        | inl less ↦
            let r = bucket_rises first (get_or nodes k d).id (get_or nodes (length nodes - 1) d).id shift (begins.none_below k d h) (below_least _ _ (rise k (length nodes - 1) d less (omega arith))) in
            omega (arith, r, few, top)
        | inr from ↦
            let at : length nodes - 1 ≡ k = omega arith in
            omega (arith, few, subst (λ j. bucket_of first shift (get_or nodes j d).id ≡ bucket_of first shift last) at top)
      ];
}

within_span : (a b : ℤ) → FitsSigned w64 a → FitsSigned w64 b → unsigned_abs (b -ℤ a) < 2 ^ (1 + 63)
within_span a b f g = grind (arith, ints, rules)

no_distance : (a b : ℤ) → b ≡ a → unsigned_abs (b -ℤ a) < 2 ^ (0 + 63)
no_distance a b e = grind (arith, ints)

-- the widest shift makes two buckets at most, and one of one node
pub takes_widest : (nodes : List OsmNode) (first last : ℤ) → FitsSigned w64 first → FitsSigned w64 last → BeginsAt nodes first → 0 < length nodes → ((d : OsmNode) → last ≡ (get_or nodes (length nodes - 1) d).id) → bucket_of first 63 last < length nodes
takes_widest nodes first last f g begins some is = elim (cases_lt 1 (length nodes)) [
  | inl more ↦ omega (arith, shr_below (unsigned_abs (last -ℤ first)) 1 63 (within_span first last f g))
  | inr one ↦
      let z : length nodes - 1 ≡ 0 = omega arith in
      let same : last ≡ first = is no_node ∙ (ap (λ j. (get_or nodes j no_node).id) z ∙ begins.first_is no_node some) in
      omega (arith, shr_below (unsigned_abs (last -ℤ first)) 0 63 (no_distance first last same))
]

-- of `place` nodes the buckets are started, up to that of the last of them
pub record AreStarted (nodes : List OsmNode) (first : ℤ) (shift place : ℕ) (starts : List ℕ) : Type 0 where
  pub before : (b k : ℕ) (d : OsmNode) → b < length starts → k < place → (k < get_or starts b 0) ↔ (bucket_of first shift (get_or nodes k d).id < b)
  pub few : length starts ≤ length nodes
  pub early : (b : ℕ) → b < length starts → get_or starts b 0 ≤ place
  pub kept : (k : ℕ) (d : OsmNode) → k < place → bucket_of first shift (get_or nodes k d).id < length starts
  pub ahead : (k : ℕ) (d : OsmNode) → place ≤ k → k < length nodes → length starts ≤ bucket_of first shift (get_or nodes k d).id + 1

pub none_started : (nodes : List OsmNode) (first : ℤ) (shift : ℕ) → AreStarted nodes first shift 0 []
none_started nodes first shift = record {
  before = λ b k d h l. absurd (omega arith);
  few = omega arith;
  early = λ b h. absurd (omega arith);
  kept = λ k d h. absurd (omega arith);
  ahead = λ k d h l. omega arith;
}

-- what stands at a place of a list with one number several times behind it
more_at : (starts : List ℕ) (m v b : ℕ) → b < length starts + m → ((b < length starts) × (get_or (starts ++ replicate m v) b 0 ≡ get_or starts b 0)) ⊎ ((length starts ≤ b) × (get_or (starts ++ replicate m v) b 0 ≡ v))
more_at starts m v b h = elim (cases_lt b (length starts)) [
  | inl old ↦ inl (old, get_or_append_left starts (replicate m v) 0 b old)
  | inr new ↦ inr (new, get_or-append_right starts (replicate m v) (length starts) b 0 refl new ∙ get_or-replicate m (b - length starts) v 0 (omega arith))
]

more_length : (starts : List ℕ) (m v : ℕ) → length (starts ++ replicate m v) ≡ length starts + m
more_length starts m v = length-append starts (replicate m v) ∙ ap (λ n. length starts + n) (length-replicate m v)

-- the next node starts the buckets up to its own
pub more_started : (nodes : List OsmNode) (first : ℤ) (shift place : ℕ) (starts new : List ℕ) (id : ℤ) → BeginsAt nodes first → TakesBuckets nodes first shift (length nodes) → NodesRise nodes → place < length nodes → ((d : OsmNode) → id ≡ (get_or nodes place d).id) → AreStarted nodes first shift place starts → new ≡ starts ++ replicate (bucket_of first shift id + 1 - length starts) place → AreStarted nodes first shift (place + 1) new
more_started nodes first shift place starts new id begins takes rise inside is s e =
    let own = bucket_of first shift id in
    let m = own + 1 - length starts in
    let here : (d : OsmNode) → bucket_of first shift (get_or nodes place d).id ≡ own = λ d. ap (bucket_of first shift) (sym (is d)) in
    let ahead : length starts ≤ own + 1 = omega (arith, s.ahead place no_node (omega arith) inside, here no_node) in
    let size : length (starts ++ replicate m place) ≡ own + 1 = omega (arith, more_length starts m place) in
    subst (AreStarted nodes first shift (place + 1)) (sym e) (record {
      before = λ b k d h l. elim (cases_lt k place) [
        | inl less ↦ elim (more_at starts m place b (omega arith)) [
          | inl old ↦ rw old.1 (s.before b k d old.0 less)
          | inr late ↦ rw late.1 ((λ x. omega (arith, s.kept k d less, late.0)), (λ x. less))
        ]
        | inr from ↦
            let at : place ≡ k = omega arith in
            let same : bucket_of first shift (get_or nodes k d).id ≡ own = subst (λ j. bucket_of first shift (get_or nodes j d).id ≡ own) at (here d) in
            elim (more_at starts m place b (omega arith)) [
              | inl old ↦ ((λ x. absurd (omega (arith, old.1, s.early b old.0))), (λ x. absurd (omega (arith, same))))
              | inr late ↦ ((λ x. absurd (omega (arith, late.1))), (λ x. absurd (omega (arith, same))))
            ]
      ];
      few = omega (arith, size, takes.few place no_node inside, here no_node);
      early = λ b h. elim (more_at starts m place b (omega arith)) [
        | inl old ↦ omega (arith, old.1, s.early b old.0)
        | inr late ↦ omega (arith, late.1)
      ];
      kept = λ k d h. elim (cases_lt k place) [
        | inl less ↦ omega (arith, s.kept k d less)
        | inr from ↦
            let at : place ≡ k = omega arith in
            let same : bucket_of first shift (get_or nodes k d).id ≡ own = subst (λ j. bucket_of first shift (get_or nodes j d).id ≡ own) at (here d) in
            omega (arith, same)
      ];
      ahead = λ k d h l.
          let r = bucket_rises first (get_or nodes place d).id (get_or nodes k d).id shift (begins.none_below place d inside) (below_least _ _ (rise place k d (omega arith) l)) in
          omega (arith, r, here d);
    })

-- the last bucket's end makes the index whole
pub index_whole : (nodes : List OsmNode) (first : ℤ) (shift place end : ℕ) (starts new : List ℕ) → shift < 64 → place ≡ length nodes → end ≡ length nodes → AreStarted nodes first shift place starts → new ≡ starts ++ end ∷ [] → IsIndex nodes first shift new
index_whole nodes first shift place end starts new narrow all ends s e =
    let size : length (starts ++ replicate 1 end) ≡ length starts + 1 = more_length starts 1 end in
    subst (IsIndex nodes first shift) (sym e) (record {
      before = λ b k d h l. elim (more_at starts 1 end b (omega arith)) [
        | inl old ↦ rw old.1 (s.before b k d old.0 (omega arith))
        | inr late ↦ rw late.1 ((λ x. omega (arith, s.kept k d (omega arith), late.0)), (λ x. omega arith))
      ];
      kept = λ k d h. omega (arith, s.kept k d (omega arith));
      inside = λ b h. elim (more_at starts 1 end b (omega arith)) [
        | inl old ↦ omega (arith, old.1, s.early b old.0)
        | inr late ↦ omega (arith, late.1)
      ];
      narrow = narrow;
      small = omega (arith, size, s.few);
    })

-- a node with the id stands in the id's bucket
pub in_bucket : (nodes : List OsmNode) (first id : ℤ) (shift b low high : ℕ) (starts : List ℕ) → IsIndex nodes first shift starts → b ≡ bucket_of first shift id → b + 1 < length starts → low ≡ get_or starts b 0 → high ≡ get_or starts (b + 1) 0 → OnlyWithin nodes id low high
in_bucket nodes first id shift b low high starts index is h l r = record {
  only = λ k d inside same.
      let own : bucket_of first shift (get_or nodes k d).id ≡ b = ap (bucket_of first shift) same ∙ sym is in
      let up = (index.before (b + 1) k d h inside).1 (omega (arith, own)) in (
        elim (cases_lt k (get_or starts b 0)) [
          | inl less ↦ absurd (omega (arith, (index.before b k d (omega arith) inside).0 less, own))
          | inr from ↦ omega arith
        ],
        omega (arith, up),
      );
  inside = omega (arith, index.inside (b + 1) h);
}

-- an id without a bucket is no node's
pub no_bucket : (nodes : List OsmNode) (first id : ℤ) (shift b : ℕ) (starts : List ℕ) → IsIndex nodes first shift starts → b ≡ bucket_of first shift id → length starts - 1 ≤ b → has_node nodes id ≡ false
no_bucket nodes first id shift b starts index is h =
    list_any_none (λ node. int_eq node.id id) nodes (λ k d l. false_from_ne_true (int_eq (get_or nodes k d).id id) (λ e.
    let own : bucket_of first shift (get_or nodes k d).id ≡ b = ap (bucket_of first shift) ((signed_Decides (get_or nodes k d).id id).0 e) ∙ sym is in
    absurd (omega (arith, index.kept k d l, own))))
