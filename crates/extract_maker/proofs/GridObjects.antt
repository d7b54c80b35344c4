-- The messages of the grid mean its nodes, ways and restrictions.
use Rattle.std.proofs.Common.{◌≡◌, ◌⊎◌, ℕ, ◌+◌, ◌*◌, ◌-◌, ◌^◌, ◌<◌, ◌≤◌, ℤ, pos, ◌+ℤ◌, ◌*ℤ◌, negsuc, ◌≤ℤ◌, true, List, [], ◌∷◌, ◌++◌, map, length, Option, Some, refl, sym, ap, ◌∙◌, subst, arith, inl, inr}
use Rattle.std.specs.Prelude.{codes, FitsSigned}
use Rattle.std.specs.Int.{w64, cast_signed}
use Rattle.std.specs.List.{AllByRecursion, AllZip}
use Rattle.std.specs.Str.{IsUtf8}
use Rattle.std.proofs.lemmas.List.{append-nil, length-map}
use Rattle.std.proofs.lemmas.Int.{ints}
use Rattle.osm_messages.specs.declared.kind.ObjectKind.TheVariants as kinds
use Rattle.osm_messages.specs.Means.{IsObject, Together}
use Rattle.osm_model.specs.declared.tags.Tag.{Tag}
use Rattle.osm_model.specs.declared.nodes.OsmNode.{OsmNode}
use Rattle.osm_model.specs.declared.ways.OsmWay.{OsmWay}
use Rattle.osm_model.specs.declared.relations.Member.{Member}
use Rattle.osm_model.specs.declared.relations.MemberKind.TheVariants as members
use Rattle.osm_model.specs.declared.relations.OsmRelation.{OsmRelation}
use Rattle.osm_objects.specs.Objects.{Objects, just_nodes, just_ways, just_relations}
use Rattle.osm_objects.specs.Means.{held_by, AreSums, AreKeptTags, GivesTag, IsKept, IsUtf8Text, IsRoundedDown, IsOnEarth, IsPlaceAt, IsNodeAt, DenseRow, MeansRow, MeansDenseNodes, MeansWay, MeansRelation, GivesObjects, type_of}
use Rattle.extract_maker.specs.Spelling.{packed, packed_differences, differences, Piece, NumberPiece, BytesPiece, message_bytes}
use Rattle.extract_maker.specs.GridFile.{dense_bytes, road_bytes, turn_bytes}
use Rattle.extract_maker.proofs.Varints.{IsWord, few_packed}
use Rattle.extract_maker.proofs.Messages.{IsGood}
use Rattle.extract_maker.proofs.Sums.{IsSmall, are_sums, differences_words, length_differences}
use Rattle.extract_maker.proofs.Helds.{Held, OneNumber, Numbers, piece_of, numbers_in, held_in, held_is, is_object}
use Rattle.extract_maker.proofs.Counting.{map_map, all_mapped, all_weaker}
use Rattle.extract_maker.proofs.DataBlocks.{good_number, plain_units}

-- packed differences aren't long
pub few_differences : (numbers : List ℤ) → length (packed_differences numbers) ≤ 10 * length numbers
few_differences numbers = omega (arith, few_packed (differences (pos 0) numbers), length_differences (pos 0) numbers)

-- ---- texts

pub record IsText (text : List ℕ) : Type 0 where
  pub utf8 : IsUtf8 text
  pub short : length text < 2 ^ 64

-- ---- roads

road_helds : ℕ → List ℤ → List Held
road_helds id refs = OneNumber 1 id ∷ Numbers 2 (1 ∷ 3 ∷ []) ∷ Numbers 3 (2 ∷ 4 ∷ []) ∷ Numbers 8 (differences (pos 0) refs) ∷ []

-- the table of a road
abbrev pub road_table : List ℕ → List ℕ → List (List ℕ)
road_table class name = [] ∷ codes "highway" ∷ class ∷ codes "name" ∷ name ∷ []

abbrev pub a_road : ℕ → List ℕ → List ℕ → List ℤ → OsmWay
a_road id class name refs = record {
  id = pos id;
  tags = record { key = codes "highway"; value = class } ∷ record { key = codes "name"; value = name } ∷ [];
  refs = refs;
}

highway_kept : IsKept (codes "highway")
highway_kept = inl (inl refl)

name_kept : IsKept (codes "name")
name_kept = inl (inr (inr (inr (inr (inr (inr (inr (inl refl))))))))

id_fits : (id : ℕ) → id < 10_000_000 → pos id ≡ cast_signed w64 id
id_fits id small = omega (arith, ints)

pub road_means : (place id : ℕ) (class name : List ℕ) (refs : List ℤ) → id < 10_000_000 → IsUtf8 (codes "highway") → IsUtf8 (codes "name") → IsUtf8 class → IsUtf8 name
    → AllByRecursion IsSmall refs → length refs ≤ 1000
    → GivesObjects (road_table class name) plain_units (record { kind = kinds.Way; at = place; bytes = road_bytes id refs }) (just_ways (a_road id class name refs ∷ []))
unfolding road_bytes road_helds
road_means place id class name refs small highway_utf8 name_key_utf8 class_utf8 name_utf8 all few =
    let helds = road_helds id refs in
    let table = road_table class name in
    let few_refs = few_differences refs in
    record {
      numbers = numbers_in helds;
      spells = is_object kinds.Way place helds
          (refl, ((refl, (omega arith, (omega arith, tt))), ((refl, (omega arith, (omega arith, tt))), ((refl, differences_words refs all), tt))))
          ((good_number 1 (omega arith) (omega arith), omega arith), ((good_number 2 (omega arith) (omega arith), omega (arith, few_packed (1 ∷ 3 ∷ []))), ((good_number 3 (omega arith) (omega arith), omega (arith, few_packed (2 ∷ 4 ∷ []))), ((good_number 8 (omega arith) (omega arith), omega arith), tt))));
      means = (
        a_road id class name refs,
        record {
          id = id;
          pairs = (1, 2) ∷ (3, 4) ∷ [];
          has_id = ([], held_is helds 1);
          has_pairs = record { keys_are = held_is helds 2; values_are = held_is helds 3 };
          id_is = id_fits id small;
          tags = (
            record { key = codes "highway"; value = class } ∷ [],
            record { key = codes "name"; value = name } ∷ [],
            record { key = codes "highway"; value = class; has_key = refl; has_value = refl; is = inl (highway_kept, highway_utf8, class_utf8, refl) },
            refl,
            (
              record { key = codes "name"; value = name } ∷ [],
              [],
              record { key = codes "name"; value = name; has_key = refl; has_value = refl; is = inl (name_kept, name_key_utf8, name_utf8, refl) },
              refl,
              refl,
            ),
          );
          refs = subst (λ (ns : List ℕ). AreSums ns refs) (sym (held_is helds 8 ∙ append-nil (differences (pos 0) refs))) (are_sums refs all);
        },
        refl,
      );
    }

-- ---- turn restrictions

turn_helds : ℕ → List ℤ → List Held
turn_helds id ids =
    OneNumber 1 id ∷ Numbers 2 (1 ∷ 2 ∷ []) ∷ Numbers 3 (2 ∷ 3 ∷ []) ∷ Numbers 8 (4 ∷ 5 ∷ 6 ∷ []) ∷ Numbers 9 (differences (pos 0) ids) ∷ Numbers 10 (1 ∷ 0 ∷ 1 ∷ []) ∷ []

abbrev pub turn_table : List ℕ → List (List ℕ)
turn_table kind = [] ∷ codes "type" ∷ codes "restriction" ∷ kind ∷ codes "from" ∷ codes "via" ∷ codes "to" ∷ []

abbrev pub a_turn : ℕ → List ℕ → ℤ → ℤ → ℤ → OsmRelation
a_turn id kind from via to = record {
  id = pos id;
  tags = record { key = codes "type"; value = codes "restriction" } ∷ record { key = codes "restriction"; value = kind } ∷ [];
  members =
      record { role = codes "from"; kind = members.Way; id = from }
      ∷ record { role = codes "via"; kind = members.Node; id = via }
      ∷ record { role = codes "to"; kind = members.Way; id = to }
      ∷ [];
}

type_kept : IsKept (codes "type")
type_kept = inl (inr (inr (inr (inr (inr (inr (inr (inr (inr (inr (inr (inr (inr (inr (inr (inr (inr (inr (inr (inl refl))))))))))))))))))))

restriction_kept : IsKept (codes "restriction")
restriction_kept = inl (inr (inr (inr (inr (inr (inr (inr (inr (inr (inr (inr (inr (inr (inr (inr (inr (inr (inr (inr (inr (inr (inl refl))))))))))))))))))))))

-- the texts of a restriction are UTF-8
pub record AreTurnTexts (kind : List ℕ) : Type 0 where
  pub type_key : IsUtf8 (codes "type")
  pub restriction : IsUtf8 (codes "restriction")
  pub kind_text : IsUtf8 kind
  pub from_role : IsUtf8 (codes "from")
  pub via_role : IsUtf8 (codes "via")
  pub to_role : IsUtf8 (codes "to")

pub turn_means : (place id : ℕ) (kind : List ℕ) (from via to : ℤ) → id < 10_000_000 → AreTurnTexts kind → IsSmall from → IsSmall via → IsSmall to
    → GivesObjects (turn_table kind) plain_units (record { kind = kinds.Relation; at = place; bytes = turn_bytes id (from ∷ via ∷ to ∷ []) }) (just_relations (a_turn id kind from via to ∷ []))
unfolding turn_bytes turn_helds
turn_means place id kind from via to small texts from_small via_small to_small =
    let ids : List ℤ = from ∷ via ∷ to ∷ [] in
    let helds = turn_helds id ids in
    let all : AllByRecursion IsSmall ids = (from_small, (via_small, (to_small, tt))) in
    let few_ids = few_differences ids in
    record {
      numbers = numbers_in helds;
      spells = is_object kinds.Relation place helds
          (refl, ((refl, (omega arith, (omega arith, tt))), ((refl, (omega arith, (omega arith, tt))), ((refl, (omega arith, (omega arith, (omega arith, tt)))), ((refl, differences_words ids all), ((refl, (omega arith, (omega arith, (omega arith, tt)))), tt))))))
          ((good_number 1 (omega arith) (omega arith), omega arith), ((good_number 2 (omega arith) (omega arith), omega (arith, few_packed (1 ∷ 2 ∷ []))), ((good_number 3 (omega arith) (omega arith), omega (arith, few_packed (2 ∷ 3 ∷ []))), ((good_number 8 (omega arith) (omega arith), omega (arith, few_packed (4 ∷ 5 ∷ 6 ∷ []))), ((good_number 9 (omega arith) (omega arith), omega arith), ((good_number 10 (omega arith) (omega arith), omega (arith, few_packed (1 ∷ 0 ∷ 1 ∷ []))), tt))))));
      means = (
        a_turn id kind from via to,
        record {
          id = id;
          pairs = (1, 2) ∷ (2, 3) ∷ [];
          has_id = ([], held_is helds 1);
          has_pairs = record { keys_are = held_is helds 2; values_are = held_is helds 3 };
          id_is = id_fits id small;
          tags = (
            record { key = codes "type"; value = codes "restriction" } ∷ [],
            record { key = codes "restriction"; value = kind } ∷ [],
            record { key = codes "type"; value = codes "restriction"; has_key = refl; has_value = refl; is = inl (type_kept, texts.type_key, texts.restriction, refl) },
            refl,
            (
              record { key = codes "restriction"; value = kind } ∷ [],
              [],
              record { key = codes "restriction"; value = kind; has_key = refl; has_value = refl; is = inl (restriction_kept, texts.restriction, texts.kind_text, refl) },
              refl,
              refl,
            ),
          );
          roles = subst (λ (ns : List ℕ). AllZip (λ (index : ℕ) (member : Member). IsUtf8Text (turn_table kind) index member.role) ns (a_turn id kind from via to).members) (sym (held_is helds 8))
              (record { found = refl; utf8 = texts.from_role }, (record { found = refl; utf8 = texts.via_role }, (record { found = refl; utf8 = texts.to_role }, tt)));
          ids = subst (λ (ns : List ℕ). AreSums ns ids) (sym (held_is helds 9 ∙ append-nil (differences (pos 0) ids))) (are_sums ids all);
          types = held_is helds 10;
        },
        refl,
      );
    }

-- ---- nodes

node_helds : List ℤ → List ℤ → List ℤ → List Held
node_helds ids lats lons = Numbers 1 (differences (pos 0) ids) ∷ Numbers 8 (differences (pos 0) lats) ∷ Numbers 9 (differences (pos 0) lons) ∷ []

-- a node without tags, whose numbers are small
pub record IsPlain (node : OsmNode) : Type 0 where
  pub id : IsSmall node.id
  pub lat : IsSmall node.lat
  pub lon : IsSmall node.lon
  pub tags : node.tags ≡ []

rounded : (z : ℤ) → IsSmall z → IsRoundedDown (pos 0 +ℤ (pos 100 *ℤ z)) z
rounded (pos n) small = record { down = omega (arith, ints); nearest = omega (arith, ints) }
rounded (negsuc n) small = let h = small.least in absurd (omega (arith, ints))

row_of : OsmNode → DenseRow
row_of node = record { id = node.id; lat = node.lat; lon = node.lon; group = [] }

no_groups : (nodes : List OsmNode) → AllByRecursion (λ (group : List (ℕ × ℕ)). group ≡ []) (map (λ (row : DenseRow). row.group) (map row_of nodes))
unfolding row_of
no_groups [] = tt
no_groups (node ∷ nodes) = (refl, no_groups nodes)

rows_mean : (nodes : List OsmNode) → AllByRecursion IsPlain nodes → AllZip (MeansRow ([] ∷ []) plain_units) (map row_of nodes) nodes
unfolding row_of
rows_mean [] plain = tt
rows_mean (node ∷ nodes) plain =
    let lat = plain.0.lat in
    let lon = plain.0.lon in
    let a = lat.least in
    let b = lat.most in
    let c = lon.least in
    let d = lon.most in (
      record {
        tags = plain.0.tags;
        is = record {
          id_is = refl;
          place = record { lat_is = rounded node.lat lat; lon_is = rounded node.lon lon };
          on_earth = record { from_south = omega (arith, ints); to_north = omega (arith, ints); from_west = omega (arith, ints); to_east = omega (arith, ints) };
        };
      },
      rows_mean nodes plain.1,
    )

abbrev ids_of : List OsmNode → List ℤ
ids_of nodes = map (λ (node : OsmNode). node.id) nodes

abbrev lats_of : List OsmNode → List ℤ
lats_of nodes = map (λ (node : OsmNode). node.lat) nodes

abbrev lons_of : List OsmNode → List ℤ
lons_of nodes = map (λ (node : OsmNode). node.lon) nodes

pub nodes_mean : (place : ℕ) (nodes : List OsmNode) → AllByRecursion IsPlain nodes → length nodes ≤ 1000
    → GivesObjects ([] ∷ []) plain_units (record { kind = kinds.DenseNodes; at = place; bytes = dense_bytes nodes }) (just_nodes nodes)
unfolding dense_bytes node_helds row_of
nodes_mean place nodes plain few =
    let ids = ids_of nodes in
    let lats = lats_of nodes in
    let lons = lons_of nodes in
    let helds = node_helds ids lats lons in
    let ids_small = all_mapped IsSmall (λ (node : OsmNode). node.id) nodes (all_weaker IsPlain (λ (node : OsmNode). IsSmall node.id) nodes (λ node is. is.id) plain) in
    let lats_small = all_mapped IsSmall (λ (node : OsmNode). node.lat) nodes (all_weaker IsPlain (λ (node : OsmNode). IsSmall node.lat) nodes (λ node is. is.lat) plain) in
    let lons_small = all_mapped IsSmall (λ (node : OsmNode). node.lon) nodes (all_weaker IsPlain (λ (node : OsmNode). IsSmall node.lon) nodes (λ node is. is.lon) plain) in
    let one = few_differences ids in
    let two = few_differences lats in
    let three = few_differences lons in
    let m = length-map nodes (λ (node : OsmNode). node.id) in
    let n = length-map nodes (λ (node : OsmNode). node.lat) in
    let o = length-map nodes (λ (node : OsmNode). node.lon) in
    record {
      numbers = numbers_in helds;
      spells = is_object kinds.DenseNodes place helds
          ((refl, differences_words ids ids_small), ((refl, differences_words lats lats_small), ((refl, differences_words lons lons_small), tt)))
          ((good_number 1 (omega arith) (omega arith), omega arith), ((good_number 8 (omega arith) (omega arith), omega arith), ((good_number 9 (omega arith) (omega arith), omega arith), tt)));
      means = (
        nodes,
        record {
          rows = map row_of nodes;
          ids = subst (λ (ns : List ℕ). AreSums ns (map (λ (row : DenseRow). row.id) (map row_of nodes))) (sym (held_is helds 1 ∙ append-nil (differences (pos 0) ids)))
              (subst (λ (zs : List ℤ). AreSums (differences (pos 0) ids) zs) (sym (map_map (λ (row : DenseRow). row.id) row_of nodes)) (are_sums ids ids_small));
          lats = subst (λ (ns : List ℕ). AreSums ns (map (λ (row : DenseRow). row.lat) (map row_of nodes))) (sym (held_is helds 8 ∙ append-nil (differences (pos 0) lats)))
              (subst (λ (zs : List ℤ). AreSums (differences (pos 0) lats) zs) (sym (map_map (λ (row : DenseRow). row.lat) row_of nodes)) (are_sums lats lats_small));
          lons = subst (λ (ns : List ℕ). AreSums ns (map (λ (row : DenseRow). row.lon) (map row_of nodes))) (sym (held_is helds 9 ∙ append-nil (differences (pos 0) lons)))
              (subst (λ (zs : List ℤ). AreSums (differences (pos 0) lons) zs) (sym (map_map (λ (row : DenseRow). row.lon) row_of nodes)) (are_sums lons lons_small));
          groups = inr (held_is helds 10, no_groups nodes);
          gives = rows_mean nodes plain;
        },
        refl,
      );
    }
