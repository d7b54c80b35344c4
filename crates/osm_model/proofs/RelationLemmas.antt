-- Relations stay as they are where tags and members are added after theirs.
use Rattle.std.proofs.Common.{◌≡◌, ℕ, ℤ, ◌≤◌, refl, sym, ◌∙◌, ap, subst, ◌+◌, List, [], ◌∷◌, ◌++◌, length, map, arith}
use Rattle.std.specs.Prelude.{Bool, true, false, All, slice_range, IsPermutation, pos}
use Rattle.std.specs.List.Sorted.{IsSortedByKey}
use Rattle.std.specs.Ordering.{int_cmp}
use Rattle.std.proofs.lemmas.List.Sorted.{IsPermutation-map, All-permutation, sum_by-IsPermutation}
use Rattle.std.proofs.lemmas.List.Sums.{sum_by_push}
use Rattle.std.proofs.lemmas.List.{map-append, length-append}
use Rattle.std.proofs.lemmas.List.Elements.{All-head, All-tail, All-push}
use Rattle.osm_model.specs.declared.tags.Tag.{Tag}
use Rattle.osm_model.specs.declared.relations.Member.{Member}
use Rattle.osm_model.specs.declared.relations.OsmRelation.{OsmRelation}
use Rattle.osm_model.specs.declared.relations.RelationRow.{RelationRow}
use Rattle.osm_model.specs.Extract.{members_in, tags_of_relations}
use Rattle.osm_model.specs.RelationRows.{relation_of, IsInside, AreInside, AreOwn, AreRelations}
use Rattle.osm_model.specs.Grew.{Grew}
use Rattle.osm_model.proofs.RowOrder.{objects_sorted}
use Rattle.osm_model.proofs.TextLemmas.{part_append, part_end, grew_longer}

relations_append : (tags more : List Tag) (members most : List Member) (rows : List RelationRow) → AreInside tags members rows → map (relation_of (tags ++ more) (members ++ most)) rows ≡ map (relation_of tags members) rows
relations_append tags more members most [] kept = refl
relations_append tags more members most (row ∷ rows) kept =
    let here : IsInside (length tags) (length members) row = All-head (IsInside (length tags) (length members)) row rows kept in
    ap (λ p. record { id = row.id; tags = p; members = slice_range (members ++ most) row.members_from row.members_to } ∷ map (relation_of (tags ++ more) (members ++ most)) rows) (part_append tags more row.tags_from row.tags_to here.tags_rise here.tags_inside) ∙
    (ap (λ p. record { id = row.id; tags = slice_range tags row.tags_from row.tags_to; members = p } ∷ map (relation_of (tags ++ more) (members ++ most)) rows) (part_append members most row.members_from row.members_to here.members_rise here.members_inside) ∙
    ap (λ l. relation_of tags members row ∷ l) (relations_append tags more members most rows (All-tail (IsInside (length tags) (length members)) row rows kept)))

-- more tags and members leave the relations
pub relations_kept : (old : List OsmRelation) (tags tags' : List Tag) (members members' : List Member) (rows rows' : List RelationRow) → map (relation_of tags members) rows ≡ old → AreInside tags members rows → Grew tags tags' → Grew members members' → rows' ≡ rows → map (relation_of tags' members') rows' ≡ old
relations_kept old tags tags' members members' rows rows' e kept g h same =
    ap (λ r. map (relation_of tags' members') r) same ∙ (ap (λ t. map (relation_of t members') rows) g.is ∙ (ap (λ r. map (relation_of (tags ++ g.more) r) rows) h.is ∙
    (relations_append tags g.more members h.more rows kept ∙ e)))

-- a relation behind the others
pub relation_behind : (old : List OsmRelation) (tags tags' some : List Tag) (members members' more : List Member) (rows rows' : List RelationRow) (id : ℤ) → map (relation_of tags members) rows ≡ old → AreInside tags members rows → tags' ≡ tags ++ some → members' ≡ members ++ more → rows' ≡ rows ++ record { id = id; tags_from = length tags; tags_to = length tags'; members_from = length members; members_to = length members' } ∷ [] → map (relation_of tags' members') rows' ≡ old ++ record { id = id; tags = some; members = more } ∷ []
relation_behind old tags tags' some members members' more rows rows' id e kept g h pushed =
    let row : RelationRow = record { id = id; tags_from = length tags; tags_to = length tags'; members_from = length members; members_to = length members' } in
    ap (map (relation_of tags' members')) pushed ∙ (map-append (relation_of tags' members') rows (row ∷ []) ∙
    (ap (λ l. l ++ relation_of tags' members' row ∷ []) (relations_kept old tags tags' members members' rows rows e kept (record { more = some; is = g }) (record { more = more; is = h }) refl) ∙
    (ap (λ p. old ++ record { id = id; tags = p; members = slice_range members' (length members) (length members') } ∷ []) (ap (λ n. slice_range n (length tags) (length n)) g ∙ part_end tags some) ∙
    ap (λ p. old ++ record { id = id; tags = some; members = p } ∷ []) (ap (λ n. slice_range n (length members) (length n)) h ∙ part_end members more))))

-- rows in another order are the relations in that order
pub rows_moved : (old : List OsmRelation) (tags : List Tag) (members : List Member) (rows rows' : List RelationRow) → map (relation_of tags members) rows ≡ old → IsPermutation rows rows' → IsPermutation old (map (relation_of tags members) rows')
rows_moved old tags members rows rows' e same =
    subst (λ relations. IsPermutation relations (map (relation_of tags members) rows')) e (IsPermutation-map (relation_of tags members) rows rows' same)

pub rows_sorted : (tags : List Tag) (members : List Member) (rows : List RelationRow) → IsSortedByKey (λ row. row.id) int_cmp rows → IsSortedByKey (λ relation. relation.id) int_cmp (map (relation_of tags members) rows)
rows_sorted tags members rows sorted =
    let none : RelationRow = record { id = pos 0; tags_from = 0; tags_to = 0; members_from = 0; members_to = 0 } in
    objects_sorted (relation_of tags members) (λ row. row.id) (λ relation. relation.id) none (λ row. refl) rows sorted

-- ---- tags and members that are those of the relations

wider : (tags tags' members members' : ℕ) (rows : List RelationRow) → tags ≤ tags' → members ≤ members' → All (IsInside tags members) rows → All (IsInside tags' members') rows
wider tags tags' members members' rows l m h =
    λ k d w. let here = h k d w in
    record { tags_rise = here.tags_rise; tags_inside = omega (arith, here.tags_inside); members_rise = here.members_rise; members_inside = omega (arith, here.members_inside) }

-- where memory was short the relations stay, with more tags and members than they have
pub relations_short : (tags tags' : List Tag) (members members' : List Member) (rows rows' : List RelationRow) → AreInside tags members rows → Grew tags tags' → Grew members members' → rows' ≡ rows → AreRelations tags' members' rows' true
relations_short tags tags' members members' rows rows' kept g h same =
    record {
      kept = subst (AreInside tags' members') (sym same) (wider (length tags) (length tags') (length members) (length members') rows (grew_longer tags tags' g) (grew_longer members members' h) kept);
      theirs = λ e. absurd (cc e);
    }

-- one relation more
pub relations_pushed : (old : List OsmRelation) (tags tags' some : List Tag) (members members' more : List Member) (rows rows' : List RelationRow) (id : ℤ) → map (relation_of tags members) rows ≡ old → AreInside tags members rows → AreOwn tags members rows → tags' ≡ tags ++ some → members' ≡ members ++ more → rows' ≡ rows ++ record { id = id; tags_from = length tags; tags_to = length tags'; members_from = length members; members_to = length members' } ∷ [] → AreRelations tags' members' rows' false
relations_pushed old tags tags' some members members' more rows rows' id e kept theirs g h pushed =
    let row : RelationRow = record { id = id; tags_from = length tags; tags_to = length tags'; members_from = length members; members_to = length members' } in
    let relation : OsmRelation = record { id = id; tags = some; members = more } in
    let all_tags : length tags' ≡ length tags + length some = ap (λ l. length l) g ∙ length-append tags some in
    let all_members : length members' ≡ length members + length more = ap (λ l. length l) h ∙ length-append members more in
    let is : map (relation_of tags' members') rows' ≡ old ++ relation ∷ [] = relation_behind old tags tags' some members members' more rows rows' id e kept g h pushed in
    record {
      kept = subst (AreInside tags' members') (sym pushed)
          (All-push (IsInside (length tags') (length members')) rows row
          (wider (length tags) (length tags') (length members) (length members') rows (omega (arith, all_tags)) (omega (arith, all_members)) kept)
          (record { tags_rise = omega (arith, all_tags); tags_inside = omega arith; members_rise = omega (arith, all_members); members_inside = omega arith }));
      theirs = λ _. record {
        own_tags = all_tags ∙ (ap (λ n. n + length some) (theirs.own_tags ∙ ap tags_of_relations e) ∙ sym (ap tags_of_relations is ∙ sum_by_push (λ (r : OsmRelation). length r.tags) old relation));
        own_members = all_members ∙ (ap (λ n. n + length more) (theirs.own_members ∙ ap members_in e) ∙ sym (ap members_in is ∙ sum_by_push (λ (r : OsmRelation). length r.members) old relation));
      };
    }

-- relations in another order have the same tags and members
pub relations_other : (tags : List Tag) (members : List Member) (rows rows' : List RelationRow) (short : Bool) → AreRelations tags members rows short → IsPermutation rows rows' → AreRelations tags members rows' short
relations_other tags members rows rows' short are same =
    let moved : IsPermutation (map (relation_of tags members) rows) (map (relation_of tags members) rows') = IsPermutation-map (relation_of tags members) rows rows' same in
    record {
      kept = All-permutation (IsInside (length tags) (length members)) rows rows' same are.kept;
      theirs = λ e. record {
        own_tags = (are.theirs e).own_tags ∙ sym (sum_by-IsPermutation (λ (r : OsmRelation). length r.tags) (map (relation_of tags members) rows) (map (relation_of tags members) rows') moved);
        own_members = (are.theirs e).own_members ∙ sym (sum_by-IsPermutation (λ (r : OsmRelation). length r.members) (map (relation_of tags members) rows) (map (relation_of tags members) rows') moved);
      };
    }

pub row_is : (rows rows' : List RelationRow) (id : ℤ) (a a' b b' c c' d d' : ℕ) → a ≡ a' → b ≡ b' → c ≡ c' → d ≡ d' → rows' ≡ rows ++ record { id = id; tags_from = a; tags_to = b; members_from = c; members_to = d } ∷ [] → rows' ≡ rows ++ record { id = id; tags_from = a'; tags_to = b'; members_from = c'; members_to = d' } ∷ []
row_is rows rows' id a a' b b' c c' d d' e f g h pushed = rw (sym e, sym f, sym g, sym h) pushed
