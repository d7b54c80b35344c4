-- Each kind of object: what its numbers give is what they mean, and its fault is that of the first cause.
use Rattle.std.proofs.Common.{◌≡◌, inl, inr, ℕ, zero, suc, ◌+◌, ◌<◌, ◌≤◌, ℤ, List, [], ◌∷◌, ◌++◌, map, length, Option, Some, None, Ok, Err, refl, sym, ap, ◌∙◌, subst, arith}
use Rattle.std.specs.Prelude.{slice_get}
use Rattle.std.specs.Int.{w64, cast_signed}
use Rattle.std.specs.List.{AllZip}
use Rattle.wire_read.specs.ZigZag.{unzigzag_of}
use Rattle.osm_messages.specs.declared.kind.ObjectKind.{ObjectKind}
use Rattle.osm_messages.specs.declared.kind.ObjectKind.TheVariants as kinds
use Rattle.osm_messages.specs.Lists.{Lists}
use Rattle.osm_messages.specs.RawNumbers.{node_numbers, dense_numbers, way_numbers, relation_numbers}
use Rattle.osm_model.specs.declared.tags.Tag.{Tag}
use Rattle.osm_model.specs.declared.nodes.OsmNode.{OsmNode}
use Rattle.osm_model.specs.declared.ways.OsmWay.{OsmWay}
use Rattle.osm_model.specs.declared.relations.Member.{Member}
use Rattle.osm_model.specs.declared.relations.MemberKind.{MemberKind}
use Rattle.osm_model.specs.declared.relations.MemberKind.TheVariants as members
use Rattle.osm_model.specs.declared.relations.OsmRelation.{OsmRelation}
use Rattle.osm_objects.specs.declared.fault.ObjectFault.{ObjectFault}
use Rattle.osm_objects.specs.declared.fault.ObjectFault.TheVariants as faults
use Rattle.osm_objects.specs.declared.scale.Scale.{Scale}
use Rattle.osm_objects.specs.Steps.{◌>>=◌, each}
use Rattle.osm_objects.specs.Parts.{one_number, as_many, pairs_of}
use Rattle.osm_objects.specs.Sums.{sums_of}
use Rattle.osm_objects.specs.Tags.{text_at, tags_of}
use Rattle.osm_objects.specs.Groups.{groups_of}
use Rattle.osm_objects.specs.Coordinates.{node_at}
use Rattle.osm_objects.specs.Nodes.{decoded_node, nodes_at, grouped_nodes, decoded_dense_nodes}
use Rattle.osm_objects.specs.Ways.{decoded_way}
use Rattle.osm_objects.specs.Relations.{member_kind_of, members_of, decoded_relation}
use Rattle.osm_objects.specs.Objects.{Objects, just_nodes, just_ways, just_relations, meaning_of}
use Rattle.osm_objects.specs.Means.{HeldNumbers, IsLastOf, HoldsOfOne, sum_at, AreSums, IsUtf8Text, ArePairs, AreGroups, MeansNode, DenseRow, MeansDenseNodes, MeansWay, type_of, MeansRelation, MeansObject}
use Rattle.osm_objects.specs.Causes.{ObjectCause, Lacks, IsOdd, IsPast, NoText, NoPlace, rank_of, fault_of, index_of, HasBadName, IsFirstCause, IsNeeded, IsUneven, IsBadNumber, NamedText, RoleText, tag_names, role_names, pairs_in, AreNames, IsOffEarth, IsMisplaced, IsRowOff, IsCauseIn}
use Rattle.osm_objects.proofs.LawParts.{either_way, ok_one, err_one, ok_not_err, both_parts, which_part, then_is, one_ok, one_is, one_bad, some_last, many_ok, many_is, many_bad, pairs_even, pairs_ok, pairs_is, pairs_bad, sums_ok, sums_is, sums_bad, no_bad_sum, Groups, groups_ok, groups_is, groups_bad}
use Rattle.osm_objects.proofs.LawNames.{ReadsNames, reads_then, reads_none, reads_end, text_ok, text_is, tags_ok, tags_is, tags_read, groups_read, role_read}
use Rattle.osm_objects.proofs.LawPlaces.{node_way, node_ok, node_fault, node_so, not_off, ids_of, lats_of, lons_of, groups_of_rows, IsOff, rows_ok, rows_bad, rows_is}
use Rattle.osm_objects.proofs.LawRanks.{DecidesFrom, same_rank, from_zero, step_first, step_over, step_end, step_value, at_part, not_before, none_at}
use Rattle.osm_objects.proofs.LawFirst.{lacks_first, over_lacks, odd_first, over_odd, past_first, over_past, name_first, over_names, place_first, no_place}

-- the lists of the numbers of each field
abbrev pub lists_by : HeldNumbers → Lists
lists_by held = record { field_1 = held 1; field_2 = held 2; field_3 = held 3; field_8 = held 8; field_9 = held 9; field_10 = held 10 }

-- ---- what there is one of

one_pairs : (keys values : List ℕ) (a b : List (ℕ × ℕ)) → ArePairs keys values a → ArePairs keys values b → a ≡ b
one_pairs keys values a b p q = ok_one a b (sym (pairs_is 0 keys values a p) ∙ pairs_is 0 keys values b q)

one_groups : (numbers : List ℕ) (count : ℕ) (a b : Groups) → AreGroups numbers a → AreGroups numbers b → length a ≡ count → length b ≡ count → a ≡ b
one_groups numbers count a b p q m n = ok_one a b (sym (groups_is 0 count numbers a p m) ∙ groups_is 0 count numbers b q n)

one_last : (xs : List ℕ) (a b : ℕ) → IsLastOf xs a → IsLastOf xs b → a ≡ b
one_last xs a b p q = ok_one a b (sym (one_is 0 0 xs a p) ∙ one_is 0 0 xs b q)

-- ---- nodes

node_means : (table : List (List ℕ)) (scale : Scale) (at : ℕ) (held : HeldNumbers) (node : OsmNode) → decoded_node table scale at (node_numbers (lists_by held)) ≡ Ok node → MeansNode table scale held node
unfolding decoded_node
node_means table scale at held node e =
    let a = both_parts (one_number at 1 (held 1)) _ node e in
    let b = both_parts (one_number at 8 (held 8)) _ node a.2 in
    let c = both_parts (one_number at 9 (held 9)) _ node b.2 in
    let p = both_parts (pairs_of at (held 2) (held 3)) _ node c.2 in
    let t = both_parts (tags_of table at p.0) _ node p.2 in
    let n = node_ok table scale at (unzigzag_of a.0) (unzigzag_of b.0) (unzigzag_of c.0) p.0 t.0 node t.1 t.2 in
    record {
      id = a.0;
      lat = b.0;
      lon = c.0;
      pairs = p.0;
      has_id = one_ok at 1 (held 1) a.0 a.1;
      has_lat = one_ok at 8 (held 8) b.0 b.1;
      has_lon = one_ok at 9 (held 9) c.0 c.1;
      has_pairs = pairs_ok at (held 2) (held 3) p.0 p.1;
      tags = n.0;
      is = n.1;
    }

node_meant : (table : List (List ℕ)) (scale : Scale) (at : ℕ) (held : HeldNumbers) (node : OsmNode) → MeansNode table scale held node → decoded_node table scale at (node_numbers (lists_by held)) ≡ Ok node
unfolding decoded_node
node_meant table scale at held node m =
    then_is (one_number at 1 (held 1)) m.id _ node (one_is at 1 (held 1) m.id m.has_id)
    (then_is (one_number at 8 (held 8)) m.lat _ node (one_is at 8 (held 8) m.lat m.has_lat)
    (then_is (one_number at 9 (held 9)) m.lon _ node (one_is at 9 (held 9) m.lon m.has_lon)
    (then_is (pairs_of at (held 2) (held 3)) m.pairs _ node (pairs_is at (held 2) (held 3) m.pairs m.has_pairs)
    (then_is (tags_of table at m.pairs) node.tags _ node (tags_is table at m.pairs node.tags m.tags)
    (node_so scale (unzigzag_of m.id) (unzigzag_of m.lat) (unzigzag_of m.lon) node m.is)))))

node_decides : (table : List (List ℕ)) (scale : Scale) (at : ℕ) (held : HeldNumbers) → DecidesFrom (IsCauseIn table scale kinds.Node held) at (0, 0) (decoded_node table scale at (node_numbers (lists_by held)))
unfolding decoded_node
node_decides table scale at held =
    step_first In at (0, 0) (one_number at 1 (held 1)) _ (λ f e. let b = one_bad at 1 (held 1) f e in lacks_first table scale kinds.Node held at f 1 b.0 (inl refl) b.1 (λ n needed none. first_least n needed))
    (λ id id_is. step_first In at (0, 0) (one_number at 8 (held 8)) _
    (λ f e. let b = one_bad at 8 (held 8) f e in lacks_first table scale kinds.Node held at f 8 b.0 (inr (inl refl)) b.1 (λ n needed none. second_least id id_is n needed none))
    (λ lat lat_is. step_first In at (0, 0) (one_number at 9 (held 9)) _
    (λ f e. let b = one_bad at 9 (held 9) f e in lacks_first table scale kinds.Node held at f 9 b.0 (inr (inr refl)) b.1 (λ n needed none. third_least id id_is lat lat_is n needed none))
    (λ lon lon_is. step_over In at (0, 0) (1, 0) _ (over_lacks table scale kinds.Node held at (λ n needed none. all_there id id_is lat lat_is lon lon_is n needed none))
    (step_first In at (1, 0) (pairs_of at (held 2) (held 3)) _ (λ f e. let b = pairs_bad at (held 2) (held 3) f e in odd_first table scale kinds.Node held at f b.0 b.1)
    (λ pairs pairs_are. step_over In at (1, 0) (2, 0) _ (over_odd table scale kinds.Node held at (λ odd. odd (pairs_even (held 2) (held 3) pairs (pairs_ok at (held 2) (held 3) pairs pairs_are))))
    (step_over In at (2, 0) (3, 0) _ (over_past table scale kinds.Node held at (λ bad. bad))
    (step_first In at (3, 0) (tags_of table at pairs) _ (λ f e. name_first table scale kinds.Node held at f (tag_names pairs) (pairs, pairs_ok at (held 2) (held 3) pairs pairs_are, refl) (names_one pairs pairs_are) ((tags_read table at pairs).bad f e))
    (λ tags tags_are. step_over In at (3, 0) (4, 0) _ (over_names table scale kinds.Node held at (tag_names pairs) (names_one pairs pairs_are) ((tags_read table at pairs).good tags tags_are))
    (last id id_is lat lat_is lon lon_is tags)))))))))
  where
    In : ObjectCause → Type 0
    In cause = IsCauseIn table scale kinds.Node held cause

    first_least : (n : ℕ) → IsNeeded kinds.Node n → 1 ≤ n
    first_least n (inl e) = omega arith
    first_least n (inr (inl e)) = omega arith
    first_least n (inr (inr e)) = omega arith

    second_least : (id : ℕ) → one_number at 1 (held 1) ≡ Ok id → (n : ℕ) → IsNeeded kinds.Node n → held n ≡ [] → 8 ≤ n
    second_least id is n (inl e) none = absurd (some_last (held 1) id (one_ok at 1 (held 1) id is) (ap held (sym e) ∙ none))
    second_least id is n (inr (inl e)) none = omega arith
    second_least id is n (inr (inr e)) none = omega arith

    third_least : (id : ℕ) → one_number at 1 (held 1) ≡ Ok id → (lat : ℕ) → one_number at 8 (held 8) ≡ Ok lat → (n : ℕ) → IsNeeded kinds.Node n → held n ≡ [] → 9 ≤ n
    third_least id is lat also n (inl e) none = absurd (some_last (held 1) id (one_ok at 1 (held 1) id is) (ap held (sym e) ∙ none))
    third_least id is lat also n (inr (inl e)) none = absurd (some_last (held 8) lat (one_ok at 8 (held 8) lat also) (ap held (sym e) ∙ none))
    third_least id is lat also n (inr (inr e)) none = omega arith

    all_there : (id : ℕ) → one_number at 1 (held 1) ≡ Ok id → (lat : ℕ) → one_number at 8 (held 8) ≡ Ok lat → (lon : ℕ) → one_number at 9 (held 9) ≡ Ok lon → (n : ℕ) → IsNeeded kinds.Node n → held n ≡ [] → ⊥
    all_there id is lat also lon too n (inl e) none = some_last (held 1) id (one_ok at 1 (held 1) id is) (ap held (sym e) ∙ none)
    all_there id is lat also lon too n (inr (inl e)) none = some_last (held 8) lat (one_ok at 8 (held 8) lat also) (ap held (sym e) ∙ none)
    all_there id is lat also lon too n (inr (inr e)) none = some_last (held 9) lon (one_ok at 9 (held 9) lon too) (ap held (sym e) ∙ none)

    names_one : (pairs : List (ℕ × ℕ)) → pairs_of at (held 2) (held 3) ≡ Ok pairs → (others : List NamedText) → AreNames kinds.Node held others → others ≡ tag_names pairs
    names_one pairs e others (also, are, is) = is ∙ ap tag_names (one_pairs (held 2) (held 3) also pairs are (pairs_ok at (held 2) (held 3) pairs e))

    last : (id : ℕ) → one_number at 1 (held 1) ≡ Ok id → (lat : ℕ) → one_number at 8 (held 8) ≡ Ok lat → (lon : ℕ) → one_number at 9 (held 9) ≡ Ok lon → (tags : List Tag)
        → DecidesFrom In at (4, 0) (node_at scale (unzigzag_of id) (unzigzag_of lat) (unzigzag_of lon) tags)
    last id is lat also lon too tags = record {
      good = λ node e. no_place table scale kinds.Node held at (λ p i off.
          let lats = one_last (held 8) off.lat lat off.has_lat (one_ok at 8 (held 8) lat also) in
          let lons = one_last (held 9) off.lon lon off.has_lon (one_ok at 9 (held 9) lon too) in
          not_off scale (unzigzag_of id) (unzigzag_of lat) (unzigzag_of lon) node (node_way scale (unzigzag_of id) (unzigzag_of lat) (unzigzag_of lon) tags node e).0
          (subst (λ x. IsOffEarth scale (unzigzag_of x) (unzigzag_of lon)) lats (subst (λ x. IsOffEarth scale (unzigzag_of off.lat) (unzigzag_of x)) lons off.off)));
      bad = λ f e.
          let b = node_fault scale (unzigzag_of id) (unzigzag_of lat) (unzigzag_of lon) tags f e in
          place_first table scale kinds.Node held at f 0 (unzigzag_of id) b.0
          (record {
            first = refl;
            number = id;
            lat = lat;
            lon = lon;
            has_id = one_ok at 1 (held 1) id is;
            has_lat = one_ok at 8 (held 8) lat also;
            has_lon = one_ok at 9 (held 9) lon too;
            id_is = refl;
            off = b.1;
          })
          (λ p i off. omega arith);
    }

-- ---- ways

way_means : (table : List (List ℕ)) (at : ℕ) (held : HeldNumbers) (way : OsmWay) → decoded_way table at (way_numbers (lists_by held)) ≡ Ok way → MeansWay table held way
unfolding decoded_way
way_means table at held way e =
    let a = both_parts (one_number at 1 (held 1)) _ way e in
    let p = both_parts (pairs_of at (held 2) (held 3)) _ way a.2 in
    let r = both_parts (sums_of at (held 8)) _ way p.2 in
    let t = both_parts (tags_of table at p.0) _ way r.2 in
    subst (MeansWay table held) (ok_one (record { id = cast_signed w64 a.0; tags = t.0; refs = r.0 }) way t.2)
    (record {
      id = a.0;
      pairs = p.0;
      has_id = one_ok at 1 (held 1) a.0 a.1;
      has_pairs = pairs_ok at (held 2) (held 3) p.0 p.1;
      id_is = refl;
      tags = tags_ok table at p.0 t.0 t.1;
      refs = sums_ok at (held 8) r.0 r.1;
    })

way_meant : (table : List (List ℕ)) (at : ℕ) (held : HeldNumbers) (way : OsmWay) → MeansWay table held way → decoded_way table at (way_numbers (lists_by held)) ≡ Ok way
unfolding decoded_way
way_meant table at held way m =
    then_is (one_number at 1 (held 1)) m.id _ way (one_is at 1 (held 1) m.id m.has_id)
    (then_is (pairs_of at (held 2) (held 3)) m.pairs _ way (pairs_is at (held 2) (held 3) m.pairs m.has_pairs)
    (then_is (sums_of at (held 8)) way.refs _ way (sums_is at (held 8) way.refs m.refs)
    (then_is (tags_of table at m.pairs) way.tags _ way (tags_is table at m.pairs way.tags m.tags)
    (ap (λ (i : ℤ). Ok (record way { id = i })) (sym m.id_is)))))

way_decides : (table : List (List ℕ)) (scale : Scale) (at : ℕ) (held : HeldNumbers) → DecidesFrom (IsCauseIn table scale kinds.Way held) at (0, 0) (decoded_way table at (way_numbers (lists_by held)))
unfolding decoded_way
way_decides table scale at held =
    step_first In at (0, 0) (one_number at 1 (held 1)) _ (λ f e. let b = one_bad at 1 (held 1) f e in lacks_first table scale kinds.Way held at f 1 b.0 refl b.1 (λ n needed none. omega arith))
    (λ id id_is. step_over In at (0, 0) (1, 0) _ (over_lacks table scale kinds.Way held at (λ n needed none. some_last (held 1) id (one_ok at 1 (held 1) id id_is) (ap held (sym needed) ∙ none)))
    (step_first In at (1, 0) (pairs_of at (held 2) (held 3)) _ (λ f e. let b = pairs_bad at (held 2) (held 3) f e in odd_first table scale kinds.Way held at f b.0 b.1)
    (λ pairs pairs_are. step_over In at (1, 0) (2, 0) _ (over_odd table scale kinds.Way held at (λ odd. odd (pairs_even (held 2) (held 3) pairs (pairs_ok at (held 2) (held 3) pairs pairs_are))))
    (step_first In at (2, 0) (sums_of at (held 8)) _ (λ f e. let b = sums_bad at (held 8) f e in past_first table scale kinds.Way held at f b.0 b.1)
    (λ refs refs_are. step_over In at (2, 0) (3, 0) _ (over_past table scale kinds.Way held at (no_bad_sum (held 8) refs (sums_ok at (held 8) refs refs_are)))
    (step_first In at (3, 0) (tags_of table at pairs) _ (λ f e. name_first table scale kinds.Way held at f (tag_names pairs) (pairs, pairs_ok at (held 2) (held 3) pairs pairs_are, refl) (names_one pairs pairs_are) ((tags_read table at pairs).bad f e))
    (λ tags tags_are. step_over In at (3, 0) (4, 0) _ (over_names table scale kinds.Way held at (tag_names pairs) (names_one pairs pairs_are) ((tags_read table at pairs).good tags tags_are))
    (step_end In at (4, 0) _ (no_place table scale kinds.Way held at (λ p i off. off))))))))))
  where
    In : ObjectCause → Type 0
    In cause = IsCauseIn table scale kinds.Way held cause

    names_one : (pairs : List (ℕ × ℕ)) → pairs_of at (held 2) (held 3) ≡ Ok pairs → (others : List NamedText) → AreNames kinds.Way held others → others ≡ tag_names pairs
    names_one pairs e others (also, are, is) = is ∙ ap tag_names (one_pairs (held 2) (held 3) also pairs are (pairs_ok at (held 2) (held 3) pairs e))

-- ---- members

type_of_nodes : (at : ℕ) (k : MemberKind) → member_kind_of at 0 ≡ Ok k → 0 ≡ type_of k
type_of_nodes at k e = ap type_of (ok_one members.Node k e)

type_of_ways : (at : ℕ) (k : MemberKind) → member_kind_of at 1 ≡ Ok k → 1 ≡ type_of k
type_of_ways at k e = ap type_of (ok_one members.Way k e)

type_ok : (at n : ℕ) (k : MemberKind) → member_kind_of at n ≡ Ok k → n ≡ type_of k
type_ok at zero k e = type_of_nodes at k e
type_ok at (suc zero) k e = type_of_ways at k e
type_ok at (suc (suc zero)) k e = ap type_of (ok_one members.Relation k e)
type_ok at (suc (suc (suc n))) k e = absurd (ok_not_err k (faults.Uneven at) (sym e))

types_ok : (at : ℕ) (types : List ℕ) (ks : List MemberKind) → each (member_kind_of at) types ≡ Ok ks → types ≡ map type_of ks
types_ok at [] ks e = ap (map type_of) (ok_one [] ks e)
types_ok at (n ∷ ns) ks e =
    let a = both_parts (member_kind_of at n) (λ y. each (member_kind_of at) ns >>= λ ys. Ok (y ∷ ys)) ks e in
    let b = both_parts (each (member_kind_of at) ns) (λ ys. Ok (a.0 ∷ ys)) ks a.2 in
    ap (λ m. m ∷ ns) (type_ok at n a.0 a.1) ∙ ap (λ l. type_of a.0 ∷ l) (types_ok at ns b.0 b.1) ∙ ap (map type_of) (ok_one (a.0 ∷ b.0) ks b.2)

types_is : (at : ℕ) (ks : List MemberKind) → each (member_kind_of at) (map type_of ks) ≡ Ok ks
types_is at [] = refl
types_is at (k ∷ ks) = then_is (member_kind_of at (type_of k)) k (λ y. each (member_kind_of at) (map type_of ks) >>= λ ys. Ok (y ∷ ys)) (k ∷ ks) (one k) (then_is (each (member_kind_of at) (map type_of ks)) ks (λ ys. Ok (k ∷ ys)) (k ∷ ks) (types_is at ks) refl)
  where
    one : (k : MemberKind) → member_kind_of at (type_of k) ≡ Ok k
    one members.Node = refl
    one members.Way = refl
    one members.Relation = refl

types_bad : (at : ℕ) (types : List ℕ) (f : ObjectFault) → each (member_kind_of at) types ≡ Err f → (f ≡ faults.Uneven at) × HoldsOfOne (λ (type : ℕ). 2 < type) types
types_bad at [] f e = absurd (ok_not_err [] f e)
types_bad at (n ∷ ns) f e =
    elim (which_part (member_kind_of at n) (λ y. each (member_kind_of at) ns >>= λ ys. Ok (y ∷ ys)) f e) [
      | inl h ↦ (let b = one n h in (b.0, inl b.1))
      | inr a ↦ elim (which_part (each (member_kind_of at) ns) (λ ys. Ok (a.0 ∷ ys)) f a.2) [
        | inl h ↦ (let b = types_bad at ns f h in (b.0, inr b.1))
        | inr b ↦ absurd (ok_not_err (a.0 ∷ b.0) f b.2)
      ]
    ]
  where
    one : (n : ℕ) → member_kind_of at n ≡ Err f → (f ≡ faults.Uneven at) × (2 < n)
    one zero e = absurd (ok_not_err members.Node f e)
    one (suc zero) e = absurd (ok_not_err members.Way f e)
    one (suc (suc zero)) e = absurd (ok_not_err members.Relation f e)
    one (suc (suc (suc n))) e = (err_one {A = MemberKind} f (faults.Uneven at) (sym e), omega arith)

no_other_type : (ks : List MemberKind) → HoldsOfOne (λ (type : ℕ). 2 < type) (map type_of ks) → ⊥
no_other_type [] some = some
no_other_type (k ∷ ks) (inl h) = one k h
  where
    one : (k : MemberKind) → 2 < type_of k → ⊥
    one members.Node h = omega arith
    one members.Way h = omega arith
    one members.Relation h = omega arith
no_other_type (k ∷ ks) (inr some) = no_other_type ks some

member_kinds : List Member → List MemberKind
member_kinds ms = map (λ (member : Member). member.kind) ms

members_ok : (table : List (List ℕ)) (at : ℕ) (roles : List ℕ) (ids : List ℤ) (ks : List MemberKind) (ms : List Member) → length roles ≡ length ids → length roles ≡ length ks → members_of table at roles ids ks ≡ Ok ms
    → AllZip (λ (index : ℕ) (member : Member). IsUtf8Text table index member.role) roles ms × (map (λ (member : Member). member.id) ms ≡ ids) × (map (λ (member : Member). member.kind) ms ≡ ks)
members_ok table at [] [] [] ms p q e =
    subst (λ (l : List Member). AllZip (λ (index : ℕ) (member : Member). IsUtf8Text table index member.role) [] l × (map (λ (member : Member). member.id) l ≡ []) × (map (λ (member : Member). member.kind) l ≡ [])) (ok_one [] ms e) (tt, refl, refl)
members_ok table at [] (i ∷ is) ks ms p q e = absurd (omega arith)
members_ok table at [] [] (k ∷ ks) ms p q e = absurd (omega arith)
members_ok table at (r ∷ rs) [] ks ms p q e = absurd (omega arith)
members_ok table at (r ∷ rs) (i ∷ is) [] ms p q e = absurd (omega arith)
members_ok table at (r ∷ rs) (i ∷ is) (k ∷ ks) ms p q e =
    let t = both_parts (text_at table at r) (λ text. members_of table at rs is ks >>= λ more. Ok (record { role = text; kind = k; id = i } ∷ more)) ms e in
    let m = both_parts (members_of table at rs is ks) (λ more. Ok (record { role = t.0; kind = k; id = i } ∷ more)) ms t.2 in
    let more = members_ok table at rs is ks m.0 (omega arith) (omega arith) m.1 in
    let one : Member = record { role = t.0; kind = k; id = i } in
    subst (λ (l : List Member). AllZip (λ (index : ℕ) (member : Member). IsUtf8Text table index member.role) (r ∷ rs) l × (map (λ (member : Member). member.id) l ≡ i ∷ is) × (map (λ (member : Member). member.kind) l ≡ k ∷ ks)) (ok_one (one ∷ m.0) ms m.2)
    ((text_ok table at r t.0 t.1, more.0), ap (λ l. i ∷ l) more.1, ap (λ l. k ∷ l) more.2)

members_is : (table : List (List ℕ)) (at : ℕ) (roles : List ℕ) (ms : List Member) → AllZip (λ (index : ℕ) (member : Member). IsUtf8Text table index member.role) roles ms
    → members_of table at roles (map (λ (member : Member). member.id) ms) (map (λ (member : Member). member.kind) ms) ≡ Ok ms
members_is table at [] [] zip = refl
members_is table at [] (m ∷ ms) zip = absurd zip
members_is table at (r ∷ rs) [] zip = absurd zip
members_is table at (r ∷ rs) (m ∷ ms) (one, zip) =
    then_is (text_at table at r) m.role (λ text. members_of table at rs (map (λ (member : Member). member.id) ms) (map (λ (member : Member). member.kind) ms) >>= λ more. Ok (record { role = text; kind = m.kind; id = m.id } ∷ more)) (m ∷ ms) (text_is table at r m.role one)
    (then_is (members_of table at rs (map (λ (member : Member). member.id) ms) (map (λ (member : Member). member.kind) ms)) ms (λ more. Ok (m ∷ more)) (m ∷ ms) (members_is table at rs ms zip) refl)

members_read : (table : List (List ℕ)) (at : ℕ) (roles : List ℕ) (ids : List ℤ) (ks : List MemberKind) → length roles ≡ length ids → length roles ≡ length ks → ReadsNames table at (role_names roles) (members_of table at roles ids ks)
members_read table at [] [] [] p q = reads_none table at []
members_read table at [] (i ∷ is) ks p q = absurd (omega arith)
members_read table at [] [] (k ∷ ks) p q = absurd (omega arith)
members_read table at (r ∷ rs) [] ks p q = absurd (omega arith)
members_read table at (r ∷ rs) (i ∷ is) [] p q = absurd (omega arith)
members_read table at (r ∷ rs) (i ∷ is) (k ∷ ks) p q =
    reads_then table at (RoleText r ∷ []) (role_names rs) (text_at table at r) (λ text. members_of table at rs is ks >>= λ more. Ok (record { role = text; kind = k; id = i } ∷ more)) (role_read table at r)
    (λ text e. reads_end table at (role_names rs) (members_of table at rs is ks) (λ more. record { role = text; kind = k; id = i } ∷ more) (members_read table at rs is ks (omega arith) (omega arith)))

-- ---- lengths

mapped_length : {A B : Type 0} (f : A → B) (xs : List A) → length (map f xs) ≡ length xs
mapped_length f [] = refl
mapped_length f (x ∷ xs) = ap suc (mapped_length f xs)

mapped_twice : (ms : List Member) → map type_of (map (λ (member : Member). member.kind) ms) ≡ map (λ (member : Member). type_of member.kind) ms
mapped_twice [] = refl
mapped_twice (m ∷ ms) = ap (λ l. type_of m.kind ∷ l) (mapped_twice ms)

zip_length : (table : List (List ℕ)) (roles : List ℕ) (ms : List Member) → AllZip (λ (index : ℕ) (member : Member). IsUtf8Text table index member.role) roles ms → length roles ≡ length ms
zip_length table [] [] zip = refl
zip_length table [] (m ∷ ms) zip = absurd zip
zip_length table (r ∷ rs) [] zip = absurd zip
zip_length table (r ∷ rs) (m ∷ ms) zip = ap suc (zip_length table rs ms zip.1)

-- ---- relations

relation_means : (table : List (List ℕ)) (at : ℕ) (held : HeldNumbers) (relation : OsmRelation) → decoded_relation table at (relation_numbers (lists_by held)) ≡ Ok relation → MeansRelation table held relation
unfolding decoded_relation
relation_means table at held relation e =
    let a = both_parts (one_number at 1 (held 1)) _ relation e in
    let p = both_parts (pairs_of at (held 2) (held 3)) _ relation a.2 in
    let ev = both_parts (as_many at (held 8) (held 9)) _ relation p.2 in
    let ew = both_parts (as_many at (held 8) (held 10)) _ relation ev.2 in
    let k = both_parts (each (member_kind_of at) (held 10)) _ relation ew.2 in
    let i = both_parts (sums_of at (held 9)) _ relation k.2 in
    let t = both_parts (tags_of table at p.0) _ relation i.2 in
    let m = both_parts (members_of table at (held 8) i.0 k.0) _ relation t.2 in
    let sums = sums_ok at (held 9) i.0 i.1 in
    let types = types_ok at (held 10) k.0 k.1 in
    let lens = many_ok at (held 8) (held 9) ev.0 ev.1 ∙ sym sums.many in
    let kinds_len = many_ok at (held 8) (held 10) ew.0 ew.1 ∙ ap (λ l. length l) types ∙ mapped_length type_of k.0 in
    let ms = members_ok table at (held 8) i.0 k.0 m.0 lens kinds_len m.1 in
    subst (MeansRelation table held) (ok_one (record { id = cast_signed w64 a.0; tags = t.0; members = m.0 }) relation m.2)
    (record {
      id = a.0;
      pairs = p.0;
      has_id = one_ok at 1 (held 1) a.0 a.1;
      has_pairs = pairs_ok at (held 2) (held 3) p.0 p.1;
      id_is = refl;
      tags = tags_ok table at p.0 t.0 t.1;
      roles = ms.0;
      ids = subst (AreSums (held 9)) (sym ms.1) sums;
      types = types ∙ ap (map type_of) (sym ms.2) ∙ mapped_twice m.0;
    })

relation_meant : (table : List (List ℕ)) (at : ℕ) (held : HeldNumbers) (relation : OsmRelation) → MeansRelation table held relation → decoded_relation table at (relation_numbers (lists_by held)) ≡ Ok relation
unfolding decoded_relation
relation_meant table at held relation m =
    let ids = map (λ (member : Member). member.id) relation.members in
    let ks = map (λ (member : Member). member.kind) relation.members in
    let types : held 10 ≡ map type_of ks = m.types ∙ sym (mapped_twice relation.members) in
    let many : length (held 8) ≡ length relation.members = zip_length table (held 8) relation.members m.roles in
    let ids_many : length (held 8) ≡ length (held 9) = many ∙ sym (mapped_length (λ (member : Member). member.id) relation.members) ∙ m.ids.many in
    let types_many : length (held 8) ≡ length (held 10) = many ∙ sym (mapped_length (λ (member : Member). type_of member.kind) relation.members) ∙ sym (ap (λ l. length l) m.types) in
    then_is (one_number at 1 (held 1)) m.id _ relation (one_is at 1 (held 1) m.id m.has_id)
    (then_is (pairs_of at (held 2) (held 3)) m.pairs _ relation (pairs_is at (held 2) (held 3) m.pairs m.has_pairs)
    (then_is (as_many at (held 8) (held 9)) tt _ relation (many_is at (held 8) (held 9) ids_many)
    (then_is (as_many at (held 8) (held 10)) tt _ relation (many_is at (held 8) (held 10) types_many)
    (then_is (each (member_kind_of at) (held 10)) ks _ relation (ap (each (member_kind_of at)) types ∙ types_is at ks)
    (then_is (sums_of at (held 9)) ids _ relation (sums_is at (held 9) ids m.ids)
    (then_is (tags_of table at m.pairs) relation.tags _ relation (tags_is table at m.pairs relation.tags m.tags)
    (then_is (members_of table at (held 8) ids ks) relation.members _ relation (members_is table at (held 8) relation.members m.roles)
    (ap (λ (i : ℤ). Ok (record relation { id = i })) (sym m.id_is)))))))))

relation_decides : (table : List (List ℕ)) (scale : Scale) (at : ℕ) (held : HeldNumbers) → DecidesFrom (IsCauseIn table scale kinds.Relation held) at (0, 0) (decoded_relation table at (relation_numbers (lists_by held)))
unfolding decoded_relation
relation_decides table scale at held =
    step_first In at (0, 0) (one_number at 1 (held 1)) _ (λ f e. let b = one_bad at 1 (held 1) f e in lacks_first table scale kinds.Relation held at f 1 b.0 refl b.1 (λ n needed none. omega arith))
    (λ id id_is. step_over In at (0, 0) (1, 0) _ (over_lacks table scale kinds.Relation held at (λ n needed none. some_last (held 1) id (one_ok at 1 (held 1) id id_is) (ap held (sym needed) ∙ none)))
    (step_first In at (1, 0) (pairs_of at (held 2) (held 3)) _ (λ f e. let b = pairs_bad at (held 2) (held 3) f e in odd_first table scale kinds.Relation held at f b.0 (inl b.1))
    (λ pairs pairs_are. step_first In at (1, 0) (as_many at (held 8) (held 9)) _ (λ f e. let b = many_bad at (held 8) (held 9) f e in odd_first table scale kinds.Relation held at f b.0 (inr (inl b.1)))
    (λ u ids_even. step_first In at (1, 0) (as_many at (held 8) (held 10)) _ (λ f e. let b = many_bad at (held 8) (held 10) f e in odd_first table scale kinds.Relation held at f b.0 (inr (inr (inl b.1))))
    (λ v types_even. step_first In at (1, 0) (each (member_kind_of at) (held 10)) _ (λ f e. let b = types_bad at (held 10) f e in odd_first table scale kinds.Relation held at f b.0 (inr (inr (inr b.1))))
    (λ ks types_are. step_over In at (1, 0) (2, 0) _ (over_odd table scale kinds.Relation held at (not_odd pairs pairs_are u ids_even v types_even ks types_are))
    (step_first In at (2, 0) (sums_of at (held 9)) _ (λ f e. let b = sums_bad at (held 9) f e in past_first table scale kinds.Relation held at f b.0 b.1)
    (λ ids ids_are. step_over In at (2, 0) (3, 0) _ (over_past table scale kinds.Relation held at (no_bad_sum (held 9) ids (sums_ok at (held 9) ids ids_are)))
    (let names = names_read pairs u ids_even v types_even ks types_are ids ids_are (cast_signed w64 id) in
    record {
      good = λ relation e cause stands from.
          (step_over In at (3, 0) (4, 0) (Ok relation) (over_names table scale kinds.Relation held at (all_names pairs) (names_one pairs pairs_are) (names.good relation e))
          (step_end In at (4, 0) relation (no_place table scale kinds.Relation held at (λ p i off. off)))).good relation refl cause stands from;
      bad = λ f e. name_first table scale kinds.Relation held at f (all_names pairs) (pairs, pairs_ok at (held 2) (held 3) pairs pairs_are, refl) (names_one pairs pairs_are) (names.bad f e);
    })))))))))
  where
    In : ObjectCause → Type 0
    In cause = IsCauseIn table scale kinds.Relation held cause

    all_names : List (ℕ × ℕ) → List NamedText
    all_names pairs = tag_names pairs ++ role_names (held 8)

    not_odd : (pairs : List (ℕ × ℕ)) → pairs_of at (held 2) (held 3) ≡ Ok pairs → (u : Unit {0}) → as_many at (held 8) (held 9) ≡ Ok u → (v : Unit {0}) → as_many at (held 8) (held 10) ≡ Ok v → (ks : List MemberKind) → each (member_kind_of at) (held 10) ≡ Ok ks → IsUneven kinds.Relation held → ⊥
    not_odd pairs p u i v t ks k (inl odd) = odd (pairs_even (held 2) (held 3) pairs (pairs_ok at (held 2) (held 3) pairs p))
    not_odd pairs p u i v t ks k (inr (inl odd)) = odd (many_ok at (held 8) (held 9) u i)
    not_odd pairs p u i v t ks k (inr (inr (inl odd))) = odd (many_ok at (held 8) (held 10) v t)
    not_odd pairs p u i v t ks k (inr (inr (inr some))) = no_other_type ks (subst (HoldsOfOne (λ (type : ℕ). 2 < type)) (types_ok at (held 10) ks k) some)

    names_one : (pairs : List (ℕ × ℕ)) → pairs_of at (held 2) (held 3) ≡ Ok pairs → (others : List NamedText) → AreNames kinds.Relation held others → others ≡ all_names pairs
    names_one pairs e others (also, are, is) = is ∙ ap all_names (one_pairs (held 2) (held 3) also pairs are (pairs_ok at (held 2) (held 3) pairs e))

    names_read : (pairs : List (ℕ × ℕ)) (u : Unit {0}) → as_many at (held 8) (held 9) ≡ Ok u → (v : Unit {0}) → as_many at (held 8) (held 10) ≡ Ok v → (ks : List MemberKind) → each (member_kind_of at) (held 10) ≡ Ok ks → (ids : List ℤ) → sums_of at (held 9) ≡ Ok ids → (id : ℤ)
        → ReadsNames {A = OsmRelation} table at (all_names pairs) (tags_of table at pairs >>= λ tags. members_of table at (held 8) ids ks >>= λ ms. Ok (record { id = id; tags = tags; members = ms }))
    names_read pairs u i v t ks k ids s id =
        reads_then table at (tag_names pairs) (role_names (held 8)) (tags_of table at pairs) _ (tags_read table at pairs)
        (λ tags e. reads_end table at (role_names (held 8)) (members_of table at (held 8) ids ks) _
        (members_read table at (held 8) ids ks (many_ok at (held 8) (held 9) u i ∙ sym (sums_ok at (held 9) ids s).many) (many_ok at (held 8) (held 10) v t ∙ ap (λ l. length l) (types_ok at (held 10) ks k) ∙ mapped_length type_of ks)))

-- ---- DenseNodes

-- rows of four lists of one length
record RowsOf (ids lats lons : List ℤ) (groups : Groups) : Type 0 where
  rows : List DenseRow
  ids_are : ids_of rows ≡ ids
  lats_are : lats_of rows ≡ lats
  lons_are : lons_of rows ≡ lons
  groups_are : groups_of_rows rows ≡ groups

rows_by : (ids lats lons : List ℤ) (groups : Groups) → length ids ≡ length lats → length ids ≡ length lons → length groups ≡ length ids → RowsOf ids lats lons groups
rows_by [] [] [] [] p q r = record { rows = []; ids_are = refl; lats_are = refl; lons_are = refl; groups_are = refl }
rows_by [] (x ∷ xs) zs gs p q r = absurd (omega arith)
rows_by [] [] (z ∷ zs) gs p q r = absurd (omega arith)
rows_by [] [] [] (g ∷ gs) p q r = absurd (omega arith)
rows_by (i ∷ is) [] zs gs p q r = absurd (omega arith)
rows_by (i ∷ is) (x ∷ xs) [] gs p q r = absurd (omega arith)
rows_by (i ∷ is) (x ∷ xs) (z ∷ zs) [] p q r = absurd (omega arith)
rows_by (i ∷ is) (x ∷ xs) (z ∷ zs) (g ∷ gs) p q r =
    let more = rows_by is xs zs gs (omega arith) (omega arith) (omega arith) in
    record {
      rows = record { id = i; lat = x; lon = z; group = g } ∷ more.rows;
      ids_are = ap (λ l. i ∷ l) more.ids_are;
      lats_are = ap (λ l. x ∷ l) more.lats_are;
      lons_are = ap (λ l. z ∷ l) more.lons_are;
      groups_are = ap (λ l. g ∷ l) more.groups_are;
    }

-- what has been seen of a DenseNodes, before its texts
record DenseParts (at : ℕ) (held : HeldNumbers) (groups : Groups) (ids lats lons : List ℤ) : Type 0 where
  lats_even : length (held 1) ≡ length (held 8)
  lons_even : length (held 1) ≡ length (held 9)
  groups_so : groups_of at (length (held 1)) (held 10) ≡ Ok groups
  ids_so : sums_of at (held 1) ≡ Ok ids
  lats_so : sums_of at (held 8) ≡ Ok lats
  lons_so : sums_of at (held 9) ≡ Ok lons

dense_rows : (at : ℕ) (held : HeldNumbers) (groups : Groups) (ids lats lons : List ℤ) → DenseParts at held groups ids lats lons → RowsOf ids lats lons groups
dense_rows at held groups ids lats lons parts =
    let i = sums_ok at (held 1) ids parts.ids_so in
    let a = sums_ok at (held 8) lats parts.lats_so in
    let o = sums_ok at (held 9) lons parts.lons_so in
    let g = groups_ok at (length (held 1)) (held 10) groups parts.groups_so in
    rows_by ids lats lons groups (i.many ∙ parts.lats_even ∙ sym a.many) (i.many ∙ parts.lons_even ∙ sym o.many) (g.1 ∙ sym i.many)

by_rows : (table : List (List ℕ)) (scale : Scale) (at : ℕ) (groups : Groups) (ids lats lons : List ℤ) (rows : RowsOf ids lats lons groups)
    → grouped_nodes table scale at groups ids lats lons ≡ (each (tags_of table at) (groups_of_rows rows.rows) >>= λ tag_lists. nodes_at scale (ids_of rows.rows) (lats_of rows.rows) (lons_of rows.rows) tag_lists)
unfolding grouped_nodes
by_rows table scale at groups ids lats lons rows =
    ap (λ (gs : Groups). each (tags_of table at) gs >>= λ tag_lists. nodes_at scale ids lats lons tag_lists) (sym rows.groups_are)
    ∙ ap (λ (is : List ℤ). each (tags_of table at) (groups_of_rows rows.rows) >>= λ tag_lists. nodes_at scale is lats lons tag_lists) (sym rows.ids_are)
    ∙ ap (λ (xs : List ℤ). each (tags_of table at) (groups_of_rows rows.rows) >>= λ tag_lists. nodes_at scale (ids_of rows.rows) xs lons tag_lists) (sym rows.lats_are)
    ∙ ap (λ (zs : List ℤ). each (tags_of table at) (groups_of_rows rows.rows) >>= λ tag_lists. nodes_at scale (ids_of rows.rows) (lats_of rows.rows) zs tag_lists) (sym rows.lons_are)

-- what the chain is made of
record DenseChain (table : List (List ℕ)) (scale : Scale) (at : ℕ) (held : HeldNumbers) (nodes : List OsmNode) : Type 0 where
  groups : Groups
  ids : List ℤ
  lats : List ℤ
  lons : List ℤ
  parts : DenseParts at held groups ids lats lons
  nodes_so : grouped_nodes table scale at groups ids lats lons ≡ Ok nodes

dense_chain : (table : List (List ℕ)) (scale : Scale) (at : ℕ) (held : HeldNumbers) (nodes : List OsmNode) → decoded_dense_nodes table scale at (dense_numbers (lists_by held)) ≡ Ok nodes → DenseChain table scale at held nodes
unfolding decoded_dense_nodes
dense_chain table scale at held nodes e =
    let a = both_parts (as_many at (held 1) (held 8)) _ nodes e in
    let b = both_parts (as_many at (held 1) (held 9)) _ nodes a.2 in
    let g = both_parts (groups_of at (length (held 1)) (held 10)) _ nodes b.2 in
    let i = both_parts (sums_of at (held 1)) _ nodes g.2 in
    let x = both_parts (sums_of at (held 8)) _ nodes i.2 in
    let z = both_parts (sums_of at (held 9)) _ nodes x.2 in
    record {
      groups = g.0;
      ids = i.0;
      lats = x.0;
      lons = z.0;
      parts = record { lats_even = many_ok at (held 1) (held 8) a.0 a.1; lons_even = many_ok at (held 1) (held 9) b.0 b.1; groups_so = g.1; ids_so = i.1; lats_so = x.1; lons_so = z.1 };
      nodes_so = z.2;
    }

dense_means : (table : List (List ℕ)) (scale : Scale) (at : ℕ) (held : HeldNumbers) (nodes : List OsmNode) → decoded_dense_nodes table scale at (dense_numbers (lists_by held)) ≡ Ok nodes → MeansDenseNodes table scale held nodes
dense_means table scale at held nodes e =
    let chain = dense_chain table scale at held nodes e in
    let rows = dense_rows at held chain.groups chain.ids chain.lats chain.lons chain.parts in
    let n = both_parts (each (tags_of table at) (groups_of_rows rows.rows)) _ nodes (sym (by_rows table scale at chain.groups chain.ids chain.lats chain.lons rows) ∙ chain.nodes_so) in
    record {
      rows = rows.rows;
      ids = subst (AreSums (held 1)) (sym rows.ids_are) (sums_ok at (held 1) chain.ids chain.parts.ids_so);
      lats = subst (AreSums (held 8)) (sym rows.lats_are) (sums_ok at (held 8) chain.lats chain.parts.lats_so);
      lons = subst (AreSums (held 9)) (sym rows.lons_are) (sums_ok at (held 9) chain.lons chain.parts.lons_so);
      groups = subst (AreGroups (held 10)) (sym rows.groups_are) (groups_ok at (length (held 1)) (held 10) chain.groups chain.parts.groups_so).0;
      gives = (rows_ok table scale at rows.rows n.0 nodes n.1 n.2).0;
    }

dense_meant : (table : List (List ℕ)) (scale : Scale) (at : ℕ) (held : HeldNumbers) (nodes : List OsmNode) → MeansDenseNodes table scale held nodes → decoded_dense_nodes table scale at (dense_numbers (lists_by held)) ≡ Ok nodes
unfolding decoded_dense_nodes
dense_meant table scale at held nodes m =
    let ids = ids_of m.rows in
    let lats = lats_of m.rows in
    let lons = lons_of m.rows in
    let groups = groups_of_rows m.rows in
    let n = mapped_length (λ (row : DenseRow). row.id) m.rows in
    let lats_even : length (held 1) ≡ length (held 8) = sym m.ids.many ∙ n ∙ sym (mapped_length (λ (row : DenseRow). row.lat) m.rows) ∙ m.lats.many in
    let lons_even : length (held 1) ≡ length (held 9) = sym m.ids.many ∙ n ∙ sym (mapped_length (λ (row : DenseRow). row.lon) m.rows) ∙ m.lons.many in
    let groups_even : length groups ≡ length (held 1) = mapped_length (λ (row : DenseRow). row.group) m.rows ∙ sym n ∙ m.ids.many in
    let so = rows_is table scale at m.rows nodes m.gives in
    then_is (as_many at (held 1) (held 8)) tt _ nodes (many_is at (held 1) (held 8) lats_even)
    (then_is (as_many at (held 1) (held 9)) tt _ nodes (many_is at (held 1) (held 9) lons_even)
    (then_is (groups_of at (length (held 1)) (held 10)) groups _ nodes (groups_is at (length (held 1)) (held 10) groups m.groups groups_even)
    (then_is (sums_of at (held 1)) ids _ nodes (sums_is at (held 1) ids m.ids)
    (then_is (sums_of at (held 8)) lats _ nodes (sums_is at (held 8) lats m.lats)
    (then_is (sums_of at (held 9)) lons _ nodes (sums_is at (held 9) lons m.lons)
    (by_rows table scale at groups ids lats lons (record { rows = m.rows; ids_are = refl; lats_are = refl; lons_are = refl; groups_are = refl })
    ∙ then_is (each (tags_of table at) groups) (map (λ (node : OsmNode). node.tags) nodes) (λ tag_lists. nodes_at scale ids lats lons tag_lists) nodes so.0 so.1))))))

-- a row that is off the earth, by its index
row_at : (sums : List ℤ) (ds : List ℕ) (place : ℕ) (z : ℤ) → AreSums ds sums → place < length ds → slice_get sums place ≡ Some z → z ≡ sum_at place ds
row_at sums ds place z are h e = inside z (sum_at place ds) (sym e ∙ are.each place h)
  where
    inside : (x y : ℤ) → ◌≡◌ {A = Option ℤ} (Some x) (Some y) → x ≡ y
    inside x y h = cc

mapped_at : {B : Type 0} (f : DenseRow → B) (rows : List DenseRow) (place : ℕ) (row : DenseRow) → slice_get rows place ≡ Some row → slice_get (map f rows) place ≡ Some (f row)
mapped_at f [] place row e = absurd (nothing e)
  where
    nothing : ◌≡◌ {A = Option DenseRow} None (Some row) → ⊥
    nothing h = cc
mapped_at f (r ∷ rows) zero row e = ap (λ x. Some (f x)) (inside r row e)
  where
    inside : (x y : DenseRow) → ◌≡◌ {A = Option DenseRow} (Some x) (Some y) → x ≡ y
    inside x y h = cc
mapped_at f (r ∷ rows) (suc place) row e = mapped_at f rows place row e

some_row : (rows : List DenseRow) (place : ℕ) → place < length rows → (row : DenseRow) × (slice_get rows place ≡ Some row)
some_row [] place h = absurd (omega arith)
some_row (r ∷ rows) zero h = (r, refl)
some_row (r ∷ rows) (suc place) h = some_row rows place (omega arith)

dense_places : (table : List (List ℕ)) (scale : Scale) (at : ℕ) (held : HeldNumbers) (groups : Groups) (ids lats lons : List ℤ) → DenseParts at held groups ids lats lons → (tag_lists : List (List Tag)) → (rows : RowsOf ids lats lons groups)
    → each (tags_of table at) (groups_of_rows rows.rows) ≡ Ok tag_lists
    → DecidesFrom (IsCauseIn table scale kinds.DenseNodes held) at (4, 0) (nodes_at scale (ids_of rows.rows) (lats_of rows.rows) (lons_of rows.rows) tag_lists)
dense_places table scale at held groups ids lats lons parts tag_lists rows t = record {
  good = λ nodes e. no_place table scale kinds.DenseNodes held at (λ p i off.
      let r = row_of p off in
      none_at (IsOff scale) rows.rows r.0 p (rows_ok table scale at rows.rows tag_lists nodes t e).1 r.1 r.2);
  bad = λ f e.
      let b = rows_bad table scale at rows.rows tag_lists f t e in
      let place = length b.before in
      let here : slice_get rows.rows place ≡ Some b.row = ap (λ l. slice_get l place) b.parts ∙ at_part b.before b.row b.after in
      let within : place < length (held 1) = subst (λ n. place < n) lens (below b.before b.row b.after rows.rows b.parts) in
      place_first table scale kinds.DenseNodes held at f place b.row.id b.fault_is
      (record {
        within = within;
        id_is = row_at ids (held 1) place b.row.id id_sums within (ap (λ l. slice_get l place) (sym rows.ids_are) ∙ mapped_at (λ (row : DenseRow). row.id) rows.rows place b.row here);
        off = subst (λ x. IsOffEarth scale x (sum_at place (held 9))) (row_at lats (held 8) place b.row.lat lat_sums (subst (λ n. place < n) parts.lats_even within) (ap (λ l. slice_get l place) (sym rows.lats_are) ∙ mapped_at (λ (row : DenseRow). row.lat) rows.rows place b.row here))
            (subst (λ x. IsOffEarth scale b.row.lat x) (row_at lons (held 9) place b.row.lon lon_sums (subst (λ n. place < n) parts.lons_even within) (ap (λ l. slice_get l place) (sym rows.lons_are) ∙ mapped_at (λ (row : DenseRow). row.lon) rows.rows place b.row here)) b.bad);
      })
      (λ p i off.
      let r = row_of p off in
      not_before (IsOff scale) b.before b.after b.row r.0 p b.good (ap (λ l. slice_get l p) (sym b.parts) ∙ r.1) r.2);
}
  where
    id_sums : AreSums (held 1) ids
    id_sums = sums_ok at (held 1) ids parts.ids_so

    lat_sums : AreSums (held 8) lats
    lat_sums = sums_ok at (held 8) lats parts.lats_so

    lon_sums : AreSums (held 9) lons
    lon_sums = sums_ok at (held 9) lons parts.lons_so

    lens : length rows.rows ≡ length (held 1)
    lens = sym (mapped_length (λ (row : DenseRow). row.id) rows.rows) ∙ ap (λ l. length l) rows.ids_are ∙ id_sums.many

    below : (before : List DenseRow) (row : DenseRow) (after all : List DenseRow) → all ≡ before ++ row ∷ after → length before < length all
    below before row after all e = rw e (by before)
      where
        by : (before : List DenseRow) → length before < length (before ++ row ∷ after)
        by [] = omega arith
        by (x ∷ before) = let more = by before in omega arith

    row_of : (p : ℕ) {i : ℤ} → IsRowOff scale held p i → (row : DenseRow) × (slice_get rows.rows p ≡ Some row) × IsOff scale row
    row_of p off =
        let r = some_row rows.rows p (subst (λ n. p < n) (sym lens) off.within) in
        let a = row_at lats (held 8) p r.0.lat lat_sums (subst (λ n. p < n) parts.lats_even off.within) (ap (λ l. slice_get l p) (sym rows.lats_are) ∙ mapped_at (λ (row : DenseRow). row.lat) rows.rows p r.0 r.1) in
        let o = row_at lons (held 9) p r.0.lon lon_sums (subst (λ n. p < n) parts.lons_even off.within) (ap (λ l. slice_get l p) (sym rows.lons_are) ∙ mapped_at (λ (row : DenseRow). row.lon) rows.rows p r.0 r.1) in
        (r.0, r.1, subst (λ x. IsOffEarth scale x r.0.lon) (sym a) (subst (λ x. IsOffEarth scale (sum_at p (held 8)) x) (sym o) off.off))

dense_decides : (table : List (List ℕ)) (scale : Scale) (at : ℕ) (held : HeldNumbers) → DecidesFrom (IsCauseIn table scale kinds.DenseNodes held) at (0, 0) (decoded_dense_nodes table scale at (dense_numbers (lists_by held)))
unfolding decoded_dense_nodes
dense_decides table scale at held =
    step_over In at (0, 0) (1, 0) _ (over_lacks table scale kinds.DenseNodes held at (λ n needed none. needed))
    (step_first In at (1, 0) (as_many at (held 1) (held 8)) _ (λ f e. let b = many_bad at (held 1) (held 8) f e in odd_first table scale kinds.DenseNodes held at f b.0 (inl b.1))
    (λ u a. step_first In at (1, 0) (as_many at (held 1) (held 9)) _ (λ f e. let b = many_bad at (held 1) (held 9) f e in odd_first table scale kinds.DenseNodes held at f b.0 (inr (inl b.1)))
    (λ v b. step_first In at (1, 0) (groups_of at (length (held 1)) (held 10)) _ (λ f e. let b = groups_bad at (length (held 1)) (held 10) f e in odd_first table scale kinds.DenseNodes held at f b.0 (inr (inr b.1)))
    (λ groups g. step_over In at (1, 0) (2, 0) _ (over_odd table scale kinds.DenseNodes held at (not_odd u a v b groups g))
    (step_first In at (2, 0) (sums_of at (held 1)) _ (λ f e. let b = sums_bad at (held 1) f e in past_first table scale kinds.DenseNodes held at f b.0 (inl b.1))
    (λ ids i. step_first In at (2, 0) (sums_of at (held 8)) _ (λ f e. let b = sums_bad at (held 8) f e in past_first table scale kinds.DenseNodes held at f b.0 (inr (inl b.1)))
    (λ lats x. step_first In at (2, 0) (sums_of at (held 9)) _ (λ f e. let b = sums_bad at (held 9) f e in past_first table scale kinds.DenseNodes held at f b.0 (inr (inr b.1)))
    (λ lons z. step_over In at (2, 0) (3, 0) _ (over_past table scale kinds.DenseNodes held at (not_past ids i lats x lons z))
    (last groups ids lats lons (record { lats_even = many_ok at (held 1) (held 8) u a; lons_even = many_ok at (held 1) (held 9) v b; groups_so = g; ids_so = i; lats_so = x; lons_so = z }))))))))))
  where
    In : ObjectCause → Type 0
    In cause = IsCauseIn table scale kinds.DenseNodes held cause

    not_odd : (u : Unit {0}) → as_many at (held 1) (held 8) ≡ Ok u → (v : Unit {0}) → as_many at (held 1) (held 9) ≡ Ok v → (groups : Groups) → groups_of at (length (held 1)) (held 10) ≡ Ok groups → IsUneven kinds.DenseNodes held → ⊥
    not_odd u a v b groups g (inl odd) = odd (many_ok at (held 1) (held 8) u a)
    not_odd u a v b groups g (inr (inl odd)) = odd (many_ok at (held 1) (held 9) v b)
    not_odd u a v b groups g (inr (inr none)) = let is = groups_ok at (length (held 1)) (held 10) groups g in none groups is.0 is.1

    not_past : (ids : List ℤ) → sums_of at (held 1) ≡ Ok ids → (lats : List ℤ) → sums_of at (held 8) ≡ Ok lats → (lons : List ℤ) → sums_of at (held 9) ≡ Ok lons → IsBadNumber kinds.DenseNodes held → ⊥
    not_past ids i lats x lons z (inl bad) = no_bad_sum (held 1) ids (sums_ok at (held 1) ids i) bad
    not_past ids i lats x lons z (inr (inl bad)) = no_bad_sum (held 8) lats (sums_ok at (held 8) lats x) bad
    not_past ids i lats x lons z (inr (inr bad)) = no_bad_sum (held 9) lons (sums_ok at (held 9) lons z) bad

    names_one : (groups : Groups) → groups_of at (length (held 1)) (held 10) ≡ Ok groups → (others : List NamedText) → AreNames kinds.DenseNodes held others → others ≡ tag_names (pairs_in groups)
    names_one groups g others (also, are, many, is) =
        let mine = groups_ok at (length (held 1)) (held 10) groups g in
        is ∙ ap (λ gs. tag_names (pairs_in gs)) (one_groups (held 10) (length (held 1)) also groups are mine.0 many mine.1)

    last : (groups : Groups) (ids lats lons : List ℤ) → DenseParts at held groups ids lats lons → DecidesFrom In at (3, 0) (grouped_nodes table scale at groups ids lats lons)
    last groups ids lats lons parts =
        let rows = dense_rows at held groups ids lats lons parts in
        let mine = groups_ok at (length (held 1)) (held 10) groups parts.groups_so in
        let read : ReadsNames table at (tag_names (pairs_in groups)) (each (tags_of table at) (groups_of_rows rows.rows)) =
        subst (λ (gs : Groups). ReadsNames table at (tag_names (pairs_in groups)) (each (tags_of table at) gs)) (sym rows.groups_are) (groups_read table at groups) in
        subst (DecidesFrom In at (3, 0)) (sym (by_rows table scale at groups ids lats lons rows))
        (step_first In at (3, 0) (each (tags_of table at) (groups_of_rows rows.rows)) (λ tag_lists. nodes_at scale (ids_of rows.rows) (lats_of rows.rows) (lons_of rows.rows) tag_lists)
        (λ f e. name_first table scale kinds.DenseNodes held at f (tag_names (pairs_in groups)) (groups, mine.0, mine.1, refl) (names_one groups parts.groups_so) (read.bad f e))
        (λ tag_lists t. step_over In at (3, 0) (4, 0) _ (over_names table scale kinds.DenseNodes held at (tag_names (pairs_in groups)) (names_one groups parts.groups_so) (read.good tag_lists t))
        (dense_places table scale at held groups ids lats lons parts tag_lists rows t)))

-- ---- any object

pub kind_means : (kind : ObjectKind) (table : List (List ℕ)) (scale : Scale) (at : ℕ) (held : HeldNumbers) (given : Objects) → meaning_of kind table scale at (lists_by held) ≡ Ok given → MeansObject kind table scale held given
kind_means kinds.Node table scale at held given e =
    let n = both_parts (decoded_node table scale at (node_numbers (lists_by held))) (λ node. Ok (just_nodes (node ∷ []))) given e in
    (n.0, node_means table scale at held n.0 n.1, sym (ok_one (just_nodes (n.0 ∷ [])) given n.2))
kind_means kinds.DenseNodes table scale at held given e =
    let n = both_parts (decoded_dense_nodes table scale at (dense_numbers (lists_by held))) (λ nodes. Ok (just_nodes nodes)) given e in
    (n.0, dense_means table scale at held n.0 n.1, sym (ok_one (just_nodes n.0) given n.2))
kind_means kinds.Way table scale at held given e =
    let n = both_parts (decoded_way table at (way_numbers (lists_by held))) (λ way. Ok (just_ways (way ∷ []))) given e in
    (n.0, way_means table at held n.0 n.1, sym (ok_one (just_ways (n.0 ∷ [])) given n.2))
kind_means kinds.Relation table scale at held given e =
    let n = both_parts (decoded_relation table at (relation_numbers (lists_by held))) (λ relation. Ok (just_relations (relation ∷ []))) given e in
    (n.0, relation_means table at held n.0 n.1, sym (ok_one (just_relations (n.0 ∷ [])) given n.2))

pub kind_meant : (kind : ObjectKind) (table : List (List ℕ)) (scale : Scale) (at : ℕ) (held : HeldNumbers) (given : Objects) → MeansObject kind table scale held given → meaning_of kind table scale at (lists_by held) ≡ Ok given
kind_meant kinds.Node table scale at held given (node, means, is) = then_is (decoded_node table scale at (node_numbers (lists_by held))) node (λ node. Ok (just_nodes (node ∷ []))) given (node_meant table scale at held node means) (ap (λ o. Ok o) (sym is))
kind_meant kinds.DenseNodes table scale at held given (nodes, means, is) = then_is (decoded_dense_nodes table scale at (dense_numbers (lists_by held))) nodes (λ nodes. Ok (just_nodes nodes)) given (dense_meant table scale at held nodes means) (ap (λ o. Ok o) (sym is))
kind_meant kinds.Way table scale at held given (way, means, is) = then_is (decoded_way table at (way_numbers (lists_by held))) way (λ way. Ok (just_ways (way ∷ []))) given (way_meant table at held way means) (ap (λ o. Ok o) (sym is))
kind_meant kinds.Relation table scale at held given (relation, means, is) = then_is (decoded_relation table at (relation_numbers (lists_by held))) relation (λ relation. Ok (just_relations (relation ∷ []))) given (relation_meant table at held relation means) (ap (λ o. Ok o) (sym is))

pub kind_decides : (kind : ObjectKind) (table : List (List ℕ)) (scale : Scale) (at : ℕ) (held : HeldNumbers) → DecidesFrom (IsCauseIn table scale kind held) at (0, 0) (meaning_of kind table scale at (lists_by held))
kind_decides kinds.Node table scale at held = step_value (IsCauseIn table scale kinds.Node held) at (0, 0) (decoded_node table scale at (node_numbers (lists_by held))) (λ node. just_nodes (node ∷ [])) (node_decides table scale at held)
kind_decides kinds.DenseNodes table scale at held = step_value (IsCauseIn table scale kinds.DenseNodes held) at (0, 0) (decoded_dense_nodes table scale at (dense_numbers (lists_by held))) (λ nodes. just_nodes nodes) (dense_decides table scale at held)
kind_decides kinds.Way table scale at held = step_value (IsCauseIn table scale kinds.Way held) at (0, 0) (decoded_way table at (way_numbers (lists_by held))) (λ way. just_ways (way ∷ [])) (way_decides table scale at held)
kind_decides kinds.Relation table scale at held = step_value (IsCauseIn table scale kinds.Relation held) at (0, 0) (decoded_relation table at (relation_numbers (lists_by held))) (λ relation. just_relations (relation ∷ [])) (relation_decides table scale at held)

-- ---- one fault at one rank

names_same : (kind : ObjectKind) (held : HeldNumbers) (one other : List NamedText) → AreNames kind held one → AreNames kind held other → one ≡ other
names_same kinds.Node held one other (a, p, e) (b, q, f) = e ∙ ap tag_names (one_pairs (held 2) (held 3) a b p q) ∙ sym f
names_same kinds.DenseNodes held one other (a, p, m, e) (b, q, n, f) = e ∙ ap (λ gs. tag_names (pairs_in gs)) (one_groups (held 10) (length (held 1)) a b p q m n) ∙ sym f
names_same kinds.Way held one other (a, p, e) (b, q, f) = e ∙ ap tag_names (one_pairs (held 2) (held 3) a b p q) ∙ sym f
names_same kinds.Relation held one other (a, p, e) (b, q, f) = e ∙ ap (λ pairs. tag_names pairs ++ role_names (held 8)) (one_pairs (held 2) (held 3) a b p q) ∙ sym f

one_id : (kind : ObjectKind) (scale : Scale) (held : HeldNumbers) (place : ℕ) (a b : ℤ) → IsMisplaced kind scale held place a → IsMisplaced kind scale held place b → a ≡ b
one_id kinds.Node scale held place a b p q = p.id_is ∙ ap (λ n. unzigzag_of n) (one_last (held 1) p.number q.number p.has_id q.has_id) ∙ sym q.id_is
one_id kinds.DenseNodes scale held place a b p q = p.id_is ∙ sym q.id_is
one_id kinds.Way scale held place a b p q = absurd p
one_id kinds.Relation scale held place a b p q = absurd p

one_index : (table : List (List ℕ)) (kind : ObjectKind) (held : HeldNumbers) (place a b : ℕ) → HasBadName table kind held place a → HasBadName table kind held place b → a ≡ b
one_index table kind held place a b p q =
    let same = inside p.name q.name (sym p.stands ∙ ap (λ l. slice_get l place) (names_same kind held p.names q.names p.are_names q.are_names) ∙ q.stands) in
    p.index_is ∙ ap index_of same ∙ sym q.index_is
  where
    inside : (x y : NamedText) → ◌≡◌ {A = Option NamedText} (Some x) (Some y) → x ≡ y
    inside x y h = cc

pub one_fault : (table : List (List ℕ)) (scale : Scale) (kind : ObjectKind) (held : HeldNumbers) (at : ℕ) (c d : ObjectCause) → IsCauseIn table scale kind held c → IsCauseIn table scale kind held d → (rank_of c).0 ≡ (rank_of d).0 → (rank_of c).1 ≡ (rank_of d).1 → fault_of at c ≡ fault_of at d
one_fault table scale kind held at (Lacks m) (Lacks n) p q o r = ap (λ k. faults.MissingField at k) r
one_fault table scale kind held at (Lacks m) IsOdd p q o r = absurd (omega arith)
one_fault table scale kind held at (Lacks m) IsPast p q o r = absurd (omega arith)
one_fault table scale kind held at (Lacks m) (NoText x i) p q o r = absurd (omega arith)
one_fault table scale kind held at (Lacks m) (NoPlace x i) p q o r = absurd (omega arith)
one_fault table scale kind held at IsOdd (Lacks n) p q o r = absurd (omega arith)
one_fault table scale kind held at IsOdd IsOdd p q o r = refl
one_fault table scale kind held at IsOdd IsPast p q o r = absurd (omega arith)
one_fault table scale kind held at IsOdd (NoText x i) p q o r = absurd (omega arith)
one_fault table scale kind held at IsOdd (NoPlace x i) p q o r = absurd (omega arith)
one_fault table scale kind held at IsPast (Lacks n) p q o r = absurd (omega arith)
one_fault table scale kind held at IsPast IsOdd p q o r = absurd (omega arith)
one_fault table scale kind held at IsPast IsPast p q o r = refl
one_fault table scale kind held at IsPast (NoText x i) p q o r = absurd (omega arith)
one_fault table scale kind held at IsPast (NoPlace x i) p q o r = absurd (omega arith)
one_fault table scale kind held at (NoText x i) (Lacks n) p q o r = absurd (omega arith)
one_fault table scale kind held at (NoText x i) IsOdd p q o r = absurd (omega arith)
one_fault table scale kind held at (NoText x i) IsPast p q o r = absurd (omega arith)
one_fault table scale kind held at (NoText x i) (NoText y j) p q o r = ap (λ k. faults.BadString at k) (one_index table kind held x i j p (subst (λ z. HasBadName table kind held z j) (sym r) q))
one_fault table scale kind held at (NoText x i) (NoPlace y j) p q o r = absurd (omega arith)
one_fault table scale kind held at (NoPlace x i) (Lacks n) p q o r = absurd (omega arith)
one_fault table scale kind held at (NoPlace x i) IsOdd p q o r = absurd (omega arith)
one_fault table scale kind held at (NoPlace x i) IsPast p q o r = absurd (omega arith)
one_fault table scale kind held at (NoPlace x i) (NoText y j) p q o r = absurd (omega arith)
one_fault table scale kind held at (NoPlace x i) (NoPlace y j) p q o r = ap (λ k. faults.BadCoordinate k) (one_id kind scale held x i j p (subst (λ z. IsMisplaced kind scale held z j) (sym r) q))

-- ---- the first fault of an object

pub first_fault : (kind : ObjectKind) (table : List (List ℕ)) (scale : Scale) (at : ℕ) (held : HeldNumbers) (f : ObjectFault) → meaning_of kind table scale at (lists_by held) ≡ Err f → IsFirstCause table scale kind held at f
first_fault kind table scale at held f e =
    let b = (kind_decides kind table scale at held).bad f e in
    record { cause = b.cause; stands = b.stands; fault_is = b.fault_is; first = λ other stands. b.first other stands (from_zero (rank_of other)) }

pub no_fault : (kind : ObjectKind) (table : List (List ℕ)) (scale : Scale) (at : ℕ) (held : HeldNumbers) (given : Objects) → meaning_of kind table scale at (lists_by held) ≡ Ok given → (cause : ObjectCause) → IsCauseIn table scale kind held cause → ⊥
no_fault kind table scale at held given e cause stands = (kind_decides kind table scale at held).good given e cause stands (from_zero (rank_of cause))

pub fault_so : (kind : ObjectKind) (table : List (List ℕ)) (scale : Scale) (at : ℕ) (held : HeldNumbers) (f : ObjectFault) → IsFirstCause table scale kind held at f → meaning_of kind table scale at (lists_by held) ≡ Err f
fault_so kind table scale at held f first =
    elim (either_way (meaning_of kind table scale at (lists_by held))) [
      | inl h ↦ absurd (no_fault kind table scale at held h.0 h.1 first.cause first.stands)
      | inr h ↦
          (let mine = first_fault kind table scale at held h.0 h.1 in
          let same = same_rank (rank_of mine.cause) (rank_of first.cause) (mine.first first.cause first.stands) (first.first mine.cause mine.stands) in
          h.1 ∙ ap (λ g. Err g) (mine.fault_is ∙ one_fault table scale kind held at mine.cause first.cause mine.stands first.stands same.0 same.1 ∙ sym first.fault_is))
    ]
