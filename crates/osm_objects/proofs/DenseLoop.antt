-- A loop over the nodes of a DenseNodes: the nodes so far, the first one that isn't on the earth, and what is left.
use Rattle.std.proofs.Common.{◌≡◌, ℕ, ◌+◌, ◌<◌, ◌≤◌, ℤ, pos, List, [], ◌∷◌, ◌++◌, length, get_or, drop, Option, Some, None, Result, Ok, Err, IsOk, refl, sym, ap, ◌∙◌, arith, append-nil}
use Rattle.std.specs.Option.{option_or}
use Rattle.std.proofs.lemmas.List.{drop_all}
use Rattle.osm_model.specs.declared.tags.Tag.{Tag}
use Rattle.osm_model.specs.declared.nodes.OsmNode.{OsmNode}
use Rattle.osm_objects.specs.declared.fault.ObjectFault.{ObjectFault}
use Rattle.osm_objects.specs.declared.fault.ObjectFault.TheVariants.{BadCoordinate}
use Rattle.osm_objects.specs.declared.scale.Scale.{Scale}
use Rattle.osm_objects.specs.Steps.{◌>>=◌, each}
use Rattle.osm_objects.specs.Tags.{tags_of}
use Rattle.osm_objects.specs.Groups.{groups_of}
use Rattle.osm_objects.specs.FirstGroups.{first_group, behind_group, group_read, nodes_read}
use Rattle.osm_objects.specs.Coordinates.{node_at}
use Rattle.osm_objects.specs.Nodes.{nodes_at, grouped_nodes}
use Rattle.osm_objects.specs.Answers.{after}
use Rattle.osm_objects.proofs.Results.{bind_assoc, bind_same, after_after}
use Rattle.osm_objects.proofs.Loops.{at_place}
use Rattle.osm_objects.proofs.KeysValues.{Groups, Spells, Spells-first, Spells-begun}

-- nodes behind those so far, or the fault of the first node that isn't on the earth
abbrev pub finished : Option ℤ → List OsmNode → Result (List OsmNode) ObjectFault → Result (List OsmNode) ObjectFault
finished None done given = after done given
finished (Some id) done given = Err (BadCoordinate id)

-- what is left: the texts of all groups, and then the places
abbrev pub nodes_left : List (List ℕ) → Scale → ℕ → Option ℤ → List OsmNode → Groups → List ℤ → List ℤ → List ℤ → Result (List OsmNode) ObjectFault
nodes_left table scale at misplaced done groups ids lats lons =
    each (tags_of table at) groups >>= λ tag_lists. finished misplaced done (nodes_at scale ids lats lons tag_lists)

-- ---- one node

step-fault : (table : List (List ℕ)) (scale : Scale) (at : ℕ) (misplaced : Option ℤ) (done : List OsmNode) (g : List (ℕ × ℕ)) (groups : Groups) (ids lats lons : List ℤ) (d : ObjectFault)
    → tags_of table at g ≡ Err d → nodes_left table scale at misplaced done (g ∷ groups) ids lats lons ≡ Err d
step-fault table scale at misplaced done g groups ids lats lons d e =
    ap (λ t. (t >>= λ y. each (tags_of table at) groups >>= λ ys. Ok (y ∷ ys)) >>= λ tag_lists. finished misplaced done (nodes_at scale ids lats lons tag_lists)) e

-- the tags of the group are there
step-tags : (table : List (List ℕ)) (scale : Scale) (at : ℕ) (misplaced : Option ℤ) (done : List OsmNode) (g : List (ℕ × ℕ)) (groups : Groups) (ids lats lons : List ℤ) (tags : List Tag)
    → tags_of table at g ≡ Ok tags
    → nodes_left table scale at misplaced done (g ∷ groups) ids lats lons ≡ (each (tags_of table at) groups >>= λ tag_lists. finished misplaced done (nodes_at scale ids lats lons (tags ∷ tag_lists)))
step-tags table scale at misplaced done g groups ids lats lons tags e =
    ap (λ t. (t >>= λ y. each (tags_of table at) groups >>= λ ys. Ok (y ∷ ys)) >>= λ tag_lists. finished misplaced done (nodes_at scale ids lats lons tag_lists)) e
    ∙ bind_assoc (each (tags_of table at) groups) (λ ys. Ok (tags ∷ ys)) (λ tag_lists. finished misplaced done (nodes_at scale ids lats lons tag_lists))

one_placed : (scale : Scale) (done : List OsmNode) (node : OsmNode) (id lat lon : ℤ) (ids lats lons : List ℤ) (tags : List Tag) (tag_lists : List (List Tag)) → node_at scale id lat lon tags ≡ Ok node
    → after done (nodes_at scale (id ∷ ids) (lat ∷ lats) (lon ∷ lons) (tags ∷ tag_lists)) ≡ after (done ++ node ∷ []) (nodes_at scale ids lats lons tag_lists)
one_placed scale done node id lat lon ids lats lons tags tag_lists e =
    ap (λ r. after done (r >>= λ node. nodes_at scale ids lats lons tag_lists >>= λ nodes. Ok (node ∷ nodes))) e
    ∙ after_after done (node ∷ []) (nodes_at scale ids lats lons tag_lists)

one_misplaced : (scale : Scale) (done : List OsmNode) (id lat lon : ℤ) (ids lats lons : List ℤ) (tags : List Tag) (tag_lists : List (List Tag)) → node_at scale id lat lon tags ≡ Err (BadCoordinate id)
    → after done (nodes_at scale (id ∷ ids) (lat ∷ lats) (lon ∷ lons) (tags ∷ tag_lists)) ≡ Err (BadCoordinate id)
one_misplaced scale done id lat lon ids lats lons tags tag_lists e =
    ap (λ r. after done (r >>= λ node. nodes_at scale ids lats lons tag_lists >>= λ nodes. Ok (node ∷ nodes))) e

step-placed : (table : List (List ℕ)) (scale : Scale) (at : ℕ) (misplaced : Option ℤ) (done : List OsmNode) (g : List (ℕ × ℕ)) (groups : Groups) (id lat lon : ℤ) (ids lats lons : List ℤ) (tags : List Tag) (node : OsmNode)
    → tags_of table at g ≡ Ok tags → node_at scale id lat lon tags ≡ Ok node
    → nodes_left table scale at misplaced done (g ∷ groups) (id ∷ ids) (lat ∷ lats) (lon ∷ lons) ≡ nodes_left table scale at misplaced (done ++ node ∷ []) groups ids lats lons
step-placed table scale at None done g groups id lat lon ids lats lons tags node e f =
    step-tags table scale at None done g groups (id ∷ ids) (lat ∷ lats) (lon ∷ lons) tags e
    ∙ bind_same (each (tags_of table at) groups) (λ tag_lists. after done (nodes_at scale (id ∷ ids) (lat ∷ lats) (lon ∷ lons) (tags ∷ tag_lists))) (λ tag_lists. after (done ++ node ∷ []) (nodes_at scale ids lats lons tag_lists))
    (λ tag_lists. one_placed scale done node id lat lon ids lats lons tags tag_lists f)
step-placed table scale at (Some other) done g groups id lat lon ids lats lons tags node e f =
    step-tags table scale at (Some other) done g groups (id ∷ ids) (lat ∷ lats) (lon ∷ lons) tags e

step-misplaced : (table : List (List ℕ)) (scale : Scale) (at : ℕ) (misplaced : Option ℤ) (done : List OsmNode) (g : List (ℕ × ℕ)) (groups : Groups) (id lat lon : ℤ) (ids lats lons : List ℤ) (tags : List Tag)
    → tags_of table at g ≡ Ok tags → node_at scale id lat lon tags ≡ Err (BadCoordinate id)
    → nodes_left table scale at misplaced done (g ∷ groups) (id ∷ ids) (lat ∷ lats) (lon ∷ lons) ≡ nodes_left table scale at (option_or misplaced (Some id)) done groups ids lats lons
step-misplaced table scale at None done g groups id lat lon ids lats lons tags e f =
    step-tags table scale at None done g groups (id ∷ ids) (lat ∷ lats) (lon ∷ lons) tags e
    ∙ bind_same (each (tags_of table at) groups) (λ tag_lists. after done (nodes_at scale (id ∷ ids) (lat ∷ lats) (lon ∷ lons) (tags ∷ tag_lists))) (λ tag_lists. Err (BadCoordinate id))
    (λ tag_lists. one_misplaced scale done id lat lon ids lats lons tags tag_lists f)
step-misplaced table scale at (Some other) done g groups id lat lon ids lats lons tags e f =
    step-tags table scale at (Some other) done g groups (id ∷ ids) (lat ∷ lats) (lon ∷ lons) tags e

-- ---- the loop

-- the whole, by what is left: the groups that are left are spelled by the numbers that are left
pub record DenseSoFar (table table_now : List (List ℕ)) (scale : Scale) (at : ℕ) (whole : Result (List OsmNode) ObjectFault) (misplaced : Option ℤ) (done : List OsmNode) (ids lats lons : List ℤ) (i : ℕ) (rest : List ℕ) : Type 0 where
  pub groups : Groups
  pub spelled : Spells rest groups
  pub as_many : length groups + i ≡ length ids
  pub same : whole ≡ nodes_left table scale at misplaced done groups (drop i ids) (drop i lats) (drop i lons)
  pub kept : table_now ≡ table

dense_begun : (table : List (List ℕ)) (scale : Scale) (at : ℕ) (done : List OsmNode) (ids lats lons : List ℤ) (numbers : List ℕ) (r : Result Groups ObjectFault) → groups_of at (length ids) numbers ≡ r → IsOk r
    → DenseSoFar table table scale at (after done (nodes_read table scale at ids lats lons numbers)) None done ids lats lons 0 numbers
unfolding nodes_read grouped_nodes
dense_begun table scale at done ids lats lons numbers (Ok groups) e good =
    let begun = Spells-begun at (length ids) numbers groups e in
    record {
      groups = groups;
      spelled = begun.0;
      as_many = omega (arith, begun.1);
      same = ap (λ r. after done (r >>= λ gs. each (tags_of table at) gs >>= λ tag_lists. nodes_at scale ids lats lons tag_lists)) e
          ∙ bind_assoc (each (tags_of table at) groups) (λ tag_lists. nodes_at scale ids lats lons tag_lists) (λ more. Ok (done ++ more));
      kept = refl;
    }
dense_begun table scale at done ids lats lons numbers (Err d) e good = absurd cc

pub DenseSoFar-begun : (table : List (List ℕ)) (scale : Scale) (at : ℕ) (done : List OsmNode) (ids lats lons : List ℤ) (numbers : List ℕ) → IsOk (groups_of at (length ids) numbers)
    → DenseSoFar table table scale at (after done (nodes_read table scale at ids lats lons numbers)) None done ids lats lons 0 numbers
DenseSoFar-begun table scale at done ids lats lons numbers good =
    dense_begun table scale at done ids lats lons numbers (groups_of at (length ids) numbers) refl good

abbrev with_behind : List ℕ → List Tag → Result (List Tag × List ℕ) ObjectFault
with_behind behind tags = Ok (tags, behind)

given_same : (p q : List Tag × List ℕ) → with_behind p.1 p.0 ≡ with_behind q.1 q.0 → q ≡ p
given_same p q e = cc

tags_given : (t : Result (List Tag) ObjectFault) (tags : List Tag) (left behind : List ℕ) → (t >>= with_behind left) ≡ Ok (tags, behind) → (t ≡ Ok tags) × (behind ≡ left)
tags_given (Ok them) tags left behind e =
    let same : (tags, behind) ≡ (them, left) = given_same (them, left) (tags, behind) e in
    (ap (λ p. Ok p.0) (sym same), ap (λ p. p.1) same)
tags_given (Err d) tags left behind e = absurd (cc e)

tags_faulty : (t : Result (List Tag) ObjectFault) (left : List ℕ) (d : ObjectFault) → (t >>= with_behind left) ≡ Err d → t ≡ Err d
tags_faulty (Ok them) left d e = absurd (cc e)
tags_faulty (Err f) left d e = cc e

pub group_read-gives : (table : List (List ℕ)) (at : ℕ) (numbers : List ℕ) (tags : List Tag) (behind : List ℕ) → group_read table at numbers ≡ Ok (tags, behind) → (tags_of table at (first_group numbers) ≡ Ok tags) × (behind ≡ behind_group numbers)
unfolding group_read
group_read-gives table at numbers tags behind e = tags_given (tags_of table at (first_group numbers)) tags (behind_group numbers) behind e

pub group_read-stops : (table : List (List ℕ)) (at : ℕ) (numbers : List ℕ) (d : ObjectFault) → group_read table at numbers ≡ Err d → tags_of table at (first_group numbers) ≡ Err d
unfolding group_read
group_read-stops table at numbers d e = tags_faulty (tags_of table at (first_group numbers)) (behind_group numbers) d e

-- ---- one turn of the loop

left_fault : (table : List (List ℕ)) (scale : Scale) (at : ℕ) (misplaced : Option ℤ) (done : List OsmNode) (groups : Groups) (ids lats lons : List ℤ) (count i : ℕ) (rest : List ℕ) (d : ObjectFault)
    → Spells rest groups → length groups + i ≡ count → i < count → tags_of table at (first_group rest) ≡ Err d → nodes_left table scale at misplaced done groups ids lats lons ≡ Err d
left_fault table scale at misplaced done [] ids lats lons count i rest d spelled many h e = absurd (omega arith)
left_fault table scale at misplaced done (g ∷ gs) ids lats lons count i rest d spelled many h e =
    step-fault table scale at misplaced done g gs ids lats lons d (ap (tags_of table at) (sym (Spells-first rest g gs spelled).0) ∙ e)

pub turn-fault : (table table_now : List (List ℕ)) (scale : Scale) (at : ℕ) (whole : Result (List OsmNode) ObjectFault) (misplaced : Option ℤ) (done : List OsmNode) (ids lats lons : List ℤ) (i : ℕ) (rest : List ℕ) (d : ObjectFault)
    → DenseSoFar table table_now scale at whole misplaced done ids lats lons i rest → i < length ids → group_read table at rest ≡ Err d → whole ≡ Err d
turn-fault table table_now scale at whole misplaced done ids lats lons i rest d so_far h e =
    so_far.same ∙ left_fault table scale at misplaced done so_far.groups (drop i ids) (drop i lats) (drop i lons) (length ids) i rest d so_far.spelled so_far.as_many h (group_read-stops table at rest d e)

-- the node at this place
pub record IsNode (ids lats lons : List ℤ) (i : ℕ) (id lat lon : ℤ) : Type 0 where
  pub within_ids : i < length ids
  pub within_lats : i < length lats
  pub within_lons : i < length lons
  pub id_is : id ≡ get_or ids i (pos 0)
  pub lat_is : lat ≡ get_or lats i (pos 0)
  pub lon_is : lon ≡ get_or lons i (pos 0)

at_node : (table : List (List ℕ)) (scale : Scale) (at : ℕ) (misplaced : Option ℤ) (done : List OsmNode) (groups : Groups) (ids lats lons : List ℤ) (i : ℕ) (id lat lon : ℤ) → IsNode ids lats lons i id lat lon
    → nodes_left table scale at misplaced done groups (drop i ids) (drop i lats) (drop i lons) ≡ nodes_left table scale at misplaced done groups (id ∷ drop (i + 1) ids) (lat ∷ drop (i + 1) lats) (lon ∷ drop (i + 1) lons)
at_node table scale at misplaced done groups ids lats lons i id lat lon n =
    ap (λ l. nodes_left table scale at misplaced done groups l (drop i lats) (drop i lons)) (at_place ids i id (pos 0) n.within_ids n.id_is)
    ∙ ap (λ l. nodes_left table scale at misplaced done groups (id ∷ drop (i + 1) ids) l (drop i lons)) (at_place lats i lat (pos 0) n.within_lats n.lat_is)
    ∙ ap (λ l. nodes_left table scale at misplaced done groups (id ∷ drop (i + 1) ids) (lat ∷ drop (i + 1) lats) l) (at_place lons i lon (pos 0) n.within_lons n.lon_is)

-- what a step makes of what is left, for all groups that are left behind this one
abbrev Steps : List (List ℕ) → Scale → ℕ → Option ℤ → List OsmNode → Option ℤ → List OsmNode → List ℤ → List ℤ → List ℤ → ℤ → ℤ → ℤ → List Tag → Type 0
Steps table scale at misplaced done misplaced_then done_then ids lats lons id lat lon tags =
    (g : List (ℕ × ℕ)) (gs : Groups) → tags_of table at g ≡ Ok tags
    → nodes_left table scale at misplaced done (g ∷ gs) (id ∷ ids) (lat ∷ lats) (lon ∷ lons) ≡ nodes_left table scale at misplaced_then done_then gs ids lats lons

turn_by : (table table_then : List (List ℕ)) (scale : Scale) (at : ℕ) (whole : Result (List OsmNode) ObjectFault) (misplaced misplaced_then : Option ℤ) (done done_then : List OsmNode) (ids lats lons : List ℤ) (i : ℕ) (rest behind : List ℕ) (tags : List Tag) (id lat lon : ℤ)
    (groups : Groups) → Spells rest groups → length groups + i ≡ length ids → whole ≡ nodes_left table scale at misplaced done groups (drop i ids) (drop i lats) (drop i lons) → table_then ≡ table
    → IsNode ids lats lons i id lat lon → group_read table at rest ≡ Ok (tags, behind) → Steps table scale at misplaced done misplaced_then done_then (drop (i + 1) ids) (drop (i + 1) lats) (drop (i + 1) lons) id lat lon tags
    → DenseSoFar table table_then scale at whole misplaced_then done_then ids lats lons (i + 1) behind
turn_by table table_then scale at whole misplaced misplaced_then done done_then ids lats lons i rest behind tags id lat lon [] spelled many same kept n read step =
    let h : i < length ids = n.within_ids in
    absurd (omega arith)
turn_by table table_then scale at whole misplaced misplaced_then done done_then ids lats lons i rest behind tags id lat lon (g ∷ gs) spelled many same kept n read step =
    let first = Spells-first rest g gs spelled in
    let given = group_read-gives table at rest tags behind read in
    record {
      groups = gs;
      spelled = rw given.1 first.1;
      as_many = omega arith;
      same = same ∙ at_node table scale at misplaced done (g ∷ gs) ids lats lons i id lat lon n ∙ step g gs (ap (tags_of table at) (sym first.0) ∙ given.0);
      kept = kept;
    }

pub turn-placed : (table table_now table_then : List (List ℕ)) (scale : Scale) (at : ℕ) (whole : Result (List OsmNode) ObjectFault) (misplaced misplaced_then : Option ℤ) (done items : List OsmNode) (ids lats lons : List ℤ) (i : ℕ) (rest behind : List ℕ) (tags : List Tag) (id lat lon : ℤ) (node : OsmNode)
    → DenseSoFar table table_now scale at whole misplaced done ids lats lons i rest → table_then ≡ table
    → IsNode ids lats lons i id lat lon → group_read table at rest ≡ Ok (tags, behind) → node_at scale id lat lon tags ≡ Ok node → misplaced_then ≡ misplaced → items ≡ done ++ node ∷ []
    → DenseSoFar table table_then scale at whole misplaced_then items ids lats lons (i + 1) behind
turn-placed table table_now table_then scale at whole misplaced misplaced_then done items ids lats lons i rest behind tags id lat lon node so_far kept n read placed same_misplaced pushed =
    rw (same_misplaced, pushed)
    (turn_by table table_then scale at whole misplaced misplaced done (done ++ node ∷ []) ids lats lons i rest behind tags id lat lon so_far.groups so_far.spelled so_far.as_many so_far.same kept n read
    (λ g gs e. step-placed table scale at misplaced done g gs id lat lon (drop (i + 1) ids) (drop (i + 1) lats) (drop (i + 1) lons) tags node e placed))

pub turn-misplaced : (table table_now table_then : List (List ℕ)) (scale : Scale) (at : ℕ) (whole : Result (List OsmNode) ObjectFault) (misplaced misplaced_then : Option ℤ) (done items : List OsmNode) (ids lats lons : List ℤ) (i : ℕ) (rest behind : List ℕ) (tags : List Tag) (id lat lon : ℤ)
    → DenseSoFar table table_now scale at whole misplaced done ids lats lons i rest → table_then ≡ table
    → IsNode ids lats lons i id lat lon → group_read table at rest ≡ Ok (tags, behind) → node_at scale id lat lon tags ≡ Err (BadCoordinate id) → misplaced_then ≡ option_or misplaced (Some id) → items ≡ done
    → DenseSoFar table table_then scale at whole misplaced_then items ids lats lons (i + 1) behind
turn-misplaced table table_now table_then scale at whole misplaced misplaced_then done items ids lats lons i rest behind tags id lat lon so_far kept n read outside then_misplaced same_items =
    rw (then_misplaced, same_items)
    (turn_by table table_then scale at whole misplaced (option_or misplaced (Some id)) done done ids lats lons i rest behind tags id lat lon so_far.groups so_far.spelled so_far.as_many so_far.same kept n read
    (λ g gs e. step-misplaced table scale at misplaced done g gs id lat lon (drop (i + 1) ids) (drop (i + 1) lats) (drop (i + 1) lons) tags e outside))

-- ---- the end

end_by : (table : List (List ℕ)) (scale : Scale) (at : ℕ) (misplaced : Option ℤ) (done : List OsmNode) (groups : Groups) (ids lats lons : List ℤ) (count i : ℕ) → length groups + i ≡ count → count ≤ i → ids ≡ []
    → nodes_left table scale at misplaced done groups ids lats lons ≡ finished misplaced done (Ok [])
end_by table scale at misplaced done (g ∷ gs) ids lats lons count i many h none = absurd (omega arith)
end_by table scale at misplaced done [] ids lats lons count i many h none = ap (λ l. finished misplaced done (nodes_at scale l lats lons [])) none

pub DenseSoFar-end : (table table_now : List (List ℕ)) (scale : Scale) (at : ℕ) (whole : Result (List OsmNode) ObjectFault) (misplaced : Option ℤ) (done : List OsmNode) (ids lats lons : List ℤ) (i : ℕ) (rest : List ℕ)
    → DenseSoFar table table_now scale at whole misplaced done ids lats lons i rest → length ids ≤ i → whole ≡ finished misplaced done (Ok [])
DenseSoFar-end table table_now scale at whole misplaced done ids lats lons i rest so_far h =
    so_far.same ∙ end_by table scale at misplaced done so_far.groups (drop i ids) (drop i lats) (drop i lons) (length ids) i so_far.as_many h (drop_all i ids h)

pub whole-good : (whole : Result (List OsmNode) ObjectFault) (misplaced : Option ℤ) (done : List OsmNode) → whole ≡ finished misplaced done (Ok []) → misplaced ≡ None → whole ≡ Ok done
whole-good whole misplaced done e none = e ∙ ap (λ m. finished m done (Ok [])) none ∙ ap (λ l. Ok l) (append-nil done)

pub whole-bad : (whole : Result (List OsmNode) ObjectFault) (misplaced : Option ℤ) (done : List OsmNode) (id : ℤ) → whole ≡ finished misplaced done (Ok []) → misplaced ≡ Some id → whole ≡ Err (BadCoordinate id)
whole-bad whole misplaced done id e some = e ∙ ap (λ m. finished m done (Ok [])) some
