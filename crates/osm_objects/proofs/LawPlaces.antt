-- Where nodes lie, and which of them is the first that isn't on the earth.
use Rattle.std.proofs.Common.{◌≡◌, inl, inr, ℕ, ◌+◌, ◌&&◌, ℤ, pos, negsuc, cond, Bool, true, false, List, [], ◌∷◌, ◌++◌, map, Result, Ok, Err, refl, sym, ap, ◌∙◌, subst, arith}
use Rattle.std.specs.Int.{int_div_euclid}
use Rattle.std.specs.List.{AllByRecursion, AllZip}
use Rattle.std.proofs.lemmas.Int.{ints}
use Rattle.osm_model.specs.declared.tags.Tag.{Tag}
use Rattle.osm_model.specs.declared.nodes.OsmNode.{OsmNode}
use Rattle.osm_objects.specs.declared.fault.ObjectFault.{ObjectFault}
use Rattle.osm_objects.specs.declared.fault.ObjectFault.TheVariants as faults
use Rattle.osm_objects.specs.declared.scale.Scale.{Scale}
use Rattle.osm_objects.specs.Steps.{◌>>=◌, each}
use Rattle.osm_objects.specs.Scales.{units_of, is_within}
use Rattle.osm_objects.specs.Tags.{tags_of}
use Rattle.osm_objects.specs.Coordinates.{placed, node_at}
use Rattle.osm_objects.specs.Nodes.{nodes_at}
use Rattle.osm_objects.specs.Means.{lat_nano, lon_nano, IsRoundedDown, IsOnEarth, IsPlaceAt, IsNodeAt, AreKeptTags, DenseRow, MeansRow}
use Rattle.osm_objects.specs.Causes.{IsOffEarth}
use Rattle.osm_objects.proofs.LawParts.{ok_one, err_one, ok_not_err, both_parts, which_part, then_is, Groups}
use Rattle.osm_objects.proofs.LawNames.{tags_ok, tags_is}

-- ---- rounding

rounded : (nano : ℤ) → IsRoundedDown nano (int_div_euclid nano (pos 100))
rounded (pos a) = record { down = omega (arith, ints); nearest = omega (arith, ints) }
rounded (negsuc a) = record { down = omega (arith, ints); nearest = omega (arith, ints) }

one_rounded : (nano a b : ℤ) → IsRoundedDown nano a → IsRoundedDown nano b → a ≡ b
one_rounded nano a b p q = omega (arith, ints, p.down, p.nearest, q.down, q.nearest)

place_of : (scale : Scale) (lat lon : ℤ) → IsPlaceAt (lat_nano scale lat) (lon_nano scale lon) (units_of scale.granularity scale.lat_offset lat) (units_of scale.granularity scale.lon_offset lon)
place_of scale lat lon = record { lat_is = rounded (lat_nano scale lat); lon_is = rounded (lon_nano scale lon) }

-- ---- the earth

on_earth : (lat lon : ℤ) → (is_within (pos 900_000_000) lat && is_within (pos 1_800_000_000) lon) ≡ true → IsOnEarth lat lon
on_earth lat lon e = grind (arith, ints)

off_earth : (lat lon : ℤ) → (is_within (pos 900_000_000) lat && is_within (pos 1_800_000_000) lon) ≡ false → IsOnEarth lat lon → ⊥
off_earth lat lon e is = grind (arith, ints)

-- ---- one node

node_by : (id lat lon : ℤ) (tags : List Tag) → OsmNode
node_by id lat lon tags = record { id = id; lat = lat; lon = lon; tags = tags }

pub node_way : (scale : Scale) (id lat lon : ℤ) (tags : List Tag) (node : OsmNode) → node_at scale id lat lon tags ≡ Ok node → IsNodeAt scale id lat lon node × (node.tags ≡ tags)
unfolding node_at
node_way scale id lat lon tags node e =
    by (units_of scale.granularity scale.lat_offset lat) (units_of scale.granularity scale.lon_offset lon) (place_of scale lat lon) e
  where
    by : (a b : ℤ) → IsPlaceAt (lat_nano scale lat) (lon_nano scale lon) a b → placed id a b tags ≡ Ok node → IsNodeAt scale id lat lon node × (node.tags ≡ tags)
    by a b place e = tested (is_within (pos 900_000_000) a && is_within (pos 1_800_000_000) b) refl e
      where
        tested : (t : Bool) → (is_within (pos 900_000_000) a && is_within (pos 1_800_000_000) b) ≡ t → cond {A = Result OsmNode ObjectFault} t (Ok (record { id = id; lat = a; lon = b; tags = tags })) (Err (faults.BadCoordinate id)) ≡ Ok node
            → IsNodeAt scale id lat lon node × (node.tags ≡ tags)
        tested true h e =
            let these : OsmNode = record { id = id; lat = a; lon = b; tags = tags } in
            subst (λ (n : OsmNode). IsNodeAt scale id lat lon n × (n.tags ≡ tags)) (ok_one these node e) (record { id_is = refl; place = place; on_earth = on_earth a b h }, refl)
        tested false h e = absurd (ok_not_err node (faults.BadCoordinate id) (sym e))

node_bad : (scale : Scale) (id lat lon : ℤ) (tags : List Tag) (f : ObjectFault) → node_at scale id lat lon tags ≡ Err f → (f ≡ faults.BadCoordinate id) × IsOffEarth scale lat lon
unfolding node_at
node_bad scale id lat lon tags f e =
    by (units_of scale.granularity scale.lat_offset lat) (units_of scale.granularity scale.lon_offset lon) (place_of scale lat lon) e
  where
    by : (a b : ℤ) → IsPlaceAt (lat_nano scale lat) (lon_nano scale lon) a b → placed id a b tags ≡ Err f → (f ≡ faults.BadCoordinate id) × IsOffEarth scale lat lon
    by a b place e = tested (is_within (pos 900_000_000) a && is_within (pos 1_800_000_000) b) refl e
      where
        tested : (t : Bool) → (is_within (pos 900_000_000) a && is_within (pos 1_800_000_000) b) ≡ t → cond {A = Result OsmNode ObjectFault} t (Ok (record { id = id; lat = a; lon = b; tags = tags })) (Err (faults.BadCoordinate id)) ≡ Err f
            → (f ≡ faults.BadCoordinate id) × IsOffEarth scale lat lon
        tested true h e =
            let these : OsmNode = record { id = id; lat = a; lon = b; tags = tags } in
            absurd (ok_not_err these f e)
        tested false h e = (err_one {A = OsmNode} f (faults.BadCoordinate id) (sym e), (a, b, place, off_earth a b h))

-- a node that is at a place isn't off the earth
pub not_off : (scale : Scale) (id lat lon : ℤ) (node : OsmNode) → IsNodeAt scale id lat lon node → IsOffEarth scale lat lon → ⊥
not_off scale id lat lon node is (a, b, place, never) =
    let lats = one_rounded (lat_nano scale lat) a node.lat place.lat_is is.place.lat_is in
    let lons = one_rounded (lon_nano scale lon) b node.lon place.lon_is is.place.lon_is in
    never (subst (λ x. IsOnEarth x b) (sym lats) (subst (IsOnEarth node.lat) (sym lons) is.on_earth))

same_node : (a b : OsmNode) → a.id ≡ b.id → a.lat ≡ b.lat → a.lon ≡ b.lon → a.tags ≡ b.tags → a ≡ b
same_node a b p q r s =
    ap (λ (x : ℤ). record a { id = x }) p
    ∙ ap (λ (x : ℤ). record a { id = b.id; lat = x }) q
    ∙ ap (λ (x : ℤ). record a { id = b.id; lat = b.lat; lon = x }) r
    ∙ ap (λ (x : List Tag). record b { tags = x }) s

node_is : (scale : Scale) (id lat lon : ℤ) (tags : List Tag) (node : OsmNode) → IsNodeAt scale id lat lon node → node.tags ≡ tags → node_at scale id lat lon tags ≡ Ok node
node_is scale id lat lon tags node is same = by (node_at scale id lat lon tags) refl
  where
    by : (r : Result OsmNode ObjectFault) → node_at scale id lat lon tags ≡ r → node_at scale id lat lon tags ≡ Ok node
    by (Ok other) e =
        let p = node_way scale id lat lon tags other e in
        e
        ∙ ap (λ n. Ok n) (same_node other node (p.0.id_is ∙ sym is.id_is) (one_rounded (lat_nano scale lat) other.lat node.lat p.0.place.lat_is is.place.lat_is) (one_rounded (lon_nano scale lon) other.lon node.lon p.0.place.lon_is is.place.lon_is) (p.1 ∙ sym same))
    by (Err f) e = absurd (not_off scale id lat lon node is (node_bad scale id lat lon tags f e).1)

-- the tags are those of the pairs
pub node_ok : (table : List (List ℕ)) (scale : Scale) (at : ℕ) (id lat lon : ℤ) (pairs : List (ℕ × ℕ)) (tags : List Tag) (node : OsmNode) → tags_of table at pairs ≡ Ok tags → node_at scale id lat lon tags ≡ Ok node
    → AreKeptTags table pairs node.tags × IsNodeAt scale id lat lon node
node_ok table scale at id lat lon pairs tags node t e =
    let p = node_way scale id lat lon tags node e in
    (subst (AreKeptTags table pairs) (sym p.1) (tags_ok table at pairs tags t), p.0)

pub node_fault : (scale : Scale) (id lat lon : ℤ) (tags : List Tag) (f : ObjectFault) → node_at scale id lat lon tags ≡ Err f → (f ≡ faults.BadCoordinate id) × IsOffEarth scale lat lon
node_fault = node_bad

pub node_so : (scale : Scale) (id lat lon : ℤ) (node : OsmNode) → IsNodeAt scale id lat lon node → node_at scale id lat lon node.tags ≡ Ok node
node_so scale id lat lon node is = node_is scale id lat lon node.tags node is refl

-- ---- nodes of rows

abbrev pub ids_of : List DenseRow → List ℤ
ids_of rows = map (λ (row : DenseRow). row.id) rows

abbrev pub lats_of : List DenseRow → List ℤ
lats_of rows = map (λ (row : DenseRow). row.lat) rows

abbrev pub lons_of : List DenseRow → List ℤ
lons_of rows = map (λ (row : DenseRow). row.lon) rows

abbrev pub groups_of_rows : List DenseRow → Groups
groups_of_rows rows = map (λ (row : DenseRow). row.group) rows

abbrev pub IsOff : Scale → DenseRow → Type 0
IsOff scale row = IsOffEarth scale row.lat row.lon

pub record FirstOff (scale : Scale) (rows : List DenseRow) (f : ObjectFault) : Type 0 where
  pub before : List DenseRow
  pub row : DenseRow
  pub after : List DenseRow
  pub parts : rows ≡ before ++ row ∷ after
  pub good : AllByRecursion (λ (row : DenseRow). IsOff scale row → ⊥) before
  pub bad : IsOff scale row
  pub fault_is : f ≡ faults.BadCoordinate row.id

pub rows_ok : (table : List (List ℕ)) (scale : Scale) (at : ℕ) (rows : List DenseRow) (tag_lists : List (List Tag)) (nodes : List OsmNode) → each (tags_of table at) (groups_of_rows rows) ≡ Ok tag_lists
    → nodes_at scale (ids_of rows) (lats_of rows) (lons_of rows) tag_lists ≡ Ok nodes → AllZip (MeansRow table scale) rows nodes × AllByRecursion (λ (row : DenseRow). IsOff scale row → ⊥) rows
rows_ok table scale at [] tag_lists nodes t e = (subst (AllZip (MeansRow table scale) []) (ok_one [] nodes e) tt, tt)
rows_ok table scale at (row ∷ rows) [] nodes t e =
    let a = both_parts (tags_of table at row.group) (λ y. each (tags_of table at) (groups_of_rows rows) >>= λ ys. Ok (y ∷ ys)) [] t in
    let b = both_parts (each (tags_of table at) (groups_of_rows rows)) (λ ys. Ok (a.0 ∷ ys)) [] a.2 in
    absurd (never a.0 b.0 b.2)
  where
    never : (y : List Tag) (ys : List (List Tag)) → ◌≡◌ {A = Result (List (List Tag)) ObjectFault} (Ok (y ∷ ys)) (Ok []) → ⊥
    never y ys h = cc
rows_ok table scale at (row ∷ rows) (tags ∷ tag_lists) nodes t e =
    let a = both_parts (tags_of table at row.group) (λ y. each (tags_of table at) (groups_of_rows rows) >>= λ ys. Ok (y ∷ ys)) (tags ∷ tag_lists) t in
    let b = both_parts (each (tags_of table at) (groups_of_rows rows)) (λ ys. Ok (a.0 ∷ ys)) (tags ∷ tag_lists) a.2 in
    let n = both_parts (node_at scale row.id row.lat row.lon tags) (λ node. nodes_at scale (ids_of rows) (lats_of rows) (lons_of rows) tag_lists >>= λ nodes. Ok (node ∷ nodes)) nodes e in
    let m = both_parts (nodes_at scale (ids_of rows) (lats_of rows) (lons_of rows) tag_lists) (λ nodes. Ok (n.0 ∷ nodes)) nodes n.2 in
    let heads = split a.0 tags b.0 tag_lists (ok_one (a.0 ∷ b.0) (tags ∷ tag_lists) b.2) in
    let one = node_ok table scale at row.id row.lat row.lon row.group tags n.0 (a.1 ∙ ap (λ l. Ok l) heads.0) n.1 in
    let more = rows_ok table scale at rows tag_lists m.0 (b.1 ∙ ap (λ l. Ok l) heads.1) m.1 in
    (subst (AllZip (MeansRow table scale) (row ∷ rows)) (ok_one (n.0 ∷ m.0) nodes m.2) (record { tags = one.0; is = one.1 }, more.0), (not_off scale row.id row.lat row.lon n.0 one.1, more.1))
  where
    split : (x y : List Tag) (xs ys : List (List Tag)) → x ∷ xs ≡ y ∷ ys → (x ≡ y) × (xs ≡ ys)
    split x y xs ys h = (cc, cc)

pub rows_bad : (table : List (List ℕ)) (scale : Scale) (at : ℕ) (rows : List DenseRow) (tag_lists : List (List Tag)) (f : ObjectFault) → each (tags_of table at) (groups_of_rows rows) ≡ Ok tag_lists
    → nodes_at scale (ids_of rows) (lats_of rows) (lons_of rows) tag_lists ≡ Err f → FirstOff scale rows f
rows_bad table scale at [] tag_lists f t e = absurd (ok_not_err [] f e)
rows_bad table scale at (row ∷ rows) [] f t e = absurd (ok_not_err [] f e)
rows_bad table scale at (row ∷ rows) (tags ∷ tag_lists) f t e =
    let a = both_parts (tags_of table at row.group) (λ y. each (tags_of table at) (groups_of_rows rows) >>= λ ys. Ok (y ∷ ys)) (tags ∷ tag_lists) t in
    let b = both_parts (each (tags_of table at) (groups_of_rows rows)) (λ ys. Ok (a.0 ∷ ys)) (tags ∷ tag_lists) a.2 in
    let tail = split a.0 tags b.0 tag_lists (ok_one (a.0 ∷ b.0) (tags ∷ tag_lists) b.2) in
    elim (which_part (node_at scale row.id row.lat row.lon tags) (λ node. nodes_at scale (ids_of rows) (lats_of rows) (lons_of rows) tag_lists >>= λ nodes. Ok (node ∷ nodes)) f e) [
      | inl h ↦ (let p = node_bad scale row.id row.lat row.lon tags f h in record { before = []; row = row; after = rows; parts = refl; good = tt; bad = p.1; fault_is = p.0 })
      | inr n ↦ elim (which_part (nodes_at scale (ids_of rows) (lats_of rows) (lons_of rows) tag_lists) (λ nodes. Ok (n.0 ∷ nodes)) f n.2) [
        | inl h ↦
            (let one = node_way scale row.id row.lat row.lon tags n.0 n.1 in
            let more = rows_bad table scale at rows tag_lists f (b.1 ∙ ap (λ l. Ok l) tail) h in
            record {
              before = row ∷ more.before;
              row = more.row;
              after = more.after;
              parts = ap (λ l. row ∷ l) more.parts;
              good = (not_off scale row.id row.lat row.lon n.0 one.0, more.good);
              bad = more.bad;
              fault_is = more.fault_is;
            })
        | inr m ↦ absurd (ok_not_err (n.0 ∷ m.0) f m.2)
      ]
    ]
  where
    split : (x y : List Tag) (xs ys : List (List Tag)) → x ∷ xs ≡ y ∷ ys → xs ≡ ys
    split x y xs ys h = cc

-- the rows' nodes, by their tags
pub rows_is : (table : List (List ℕ)) (scale : Scale) (at : ℕ) (rows : List DenseRow) (nodes : List OsmNode) → AllZip (MeansRow table scale) rows nodes
    → (each (tags_of table at) (groups_of_rows rows) ≡ Ok (map (λ (node : OsmNode). node.tags) nodes)) × (nodes_at scale (ids_of rows) (lats_of rows) (lons_of rows) (map (λ (node : OsmNode). node.tags) nodes) ≡ Ok nodes)
rows_is table scale at [] [] zip = (refl, refl)
rows_is table scale at [] (node ∷ nodes) zip = absurd zip
rows_is table scale at (row ∷ rows) [] zip = absurd zip
rows_is table scale at (row ∷ rows) (node ∷ nodes) (one, zip) =
    let more = rows_is table scale at rows nodes zip in
    let tag_lists = map (λ (node : OsmNode). node.tags) nodes in (
      then_is (tags_of table at row.group) node.tags (λ y. each (tags_of table at) (groups_of_rows rows) >>= λ ys. Ok (y ∷ ys)) (node.tags ∷ tag_lists) (tags_is table at row.group node.tags one.tags)
          (then_is (each (tags_of table at) (groups_of_rows rows)) tag_lists (λ ys. Ok (node.tags ∷ ys)) (node.tags ∷ tag_lists) more.0 refl),
      then_is (node_at scale row.id row.lat row.lon node.tags) node (λ n. nodes_at scale (ids_of rows) (lats_of rows) (lons_of rows) tag_lists >>= λ ns. Ok (n ∷ ns)) (node ∷ nodes) (node_so scale row.id row.lat row.lon node one.is)
          (then_is (nodes_at scale (ids_of rows) (lats_of rows) (lons_of rows) tag_lists) nodes (λ ns. Ok (node ∷ ns)) (node ∷ nodes) more.1 refl),
    )
