-- What holds of an extract whose objects are all built: no turn is restricted.
use Rattle.std.proofs.Common.{◌≡◌, ℕ, ℤ, refl, sym, ap, ◌∙◌, List, [], ◌∷◌, map, Bool, true, false, cond, nat_lt, nat_le, arith}
use Rattle.std.specs.Prelude.{All, Option, Some, None, find, filter_map, unwrap_or}
use Rattle.std.specs.List.{cons_option}
use Rattle.std.specs.Option.{option_map, option_map_or}
use Rattle.std.specs.Ordering.{int_eq}
use Rattle.std.proofs.lemmas.Bool.{both_ways, cond-false, lt-ltb, leb-true}
use Rattle.std.proofs.lemmas.List.Elements.{All-cons, All-nil, All-head, All-tail}
use Rattle.tile_geometry.specs.Grid.{class_level}
use Rattle.osm_model.specs.declared.tags.Tag.{Tag}
use Rattle.osm_model.specs.declared.ways.OsmWay.{OsmWay}
use Rattle.osm_model.specs.declared.relations.OsmRelation.{OsmRelation}
use Rattle.osm_model.specs.declared.extract.Extract.{Extract}
use Rattle.way_tags.specs.Ways.{road_class}
use Rattle.osm_restrictions.specs.Keys.{is_restriction}
use Rattle.osm_restrictions.specs.Rows.{row_in, row_of, rows_of_turns}
use Rattle.osm_restrictions.specs.Turns.{turn_of}
use Rattle.road_pieces.specs.Matches.{rule_of, turn_rules}
use Rattle.road_pieces.specs.Rules.{class_of}
use Rattle.build_flow.specs.Unbuilt.{unbuilt}

-- where none is found, each fails the test
none_found : {E A : Type 0} (test : E → Bool) (id : E → A) (es : List E) → option_map id (find test es) ≡ None → All (λ e. test e ≡ false) es
none_found test id [] e = All-nil (λ e. test e ≡ false)
none_found test id (first ∷ es) e = by (test first) refl e (none_found test id es)
  where
    by : (b : Bool) → test first ≡ b → option_map id (cond b (Some first) (find test es)) ≡ None → (option_map id (find test es) ≡ None → All (λ e. test e ≡ false) es) → All (λ e. test e ≡ false) (first ∷ es)
    by true is found rest = absurd cc
    by false is found rest = All-cons (λ e. test e ≡ false) first es is (rest found)

no_restriction : (x : Extract) → unbuilt x ≡ None → All (λ relation. is_restriction relation.tags ≡ false) x.relations
no_restriction x built = none_found (λ relation. is_restriction relation.tags) (λ relation. relation.id) x.relations built

no_row : (relation : OsmRelation) → is_restriction relation.tags ≡ false → row_of relation ≡ None
no_row relation none = cond-false _ (row_in (turn_of relation)) None none

no_rows : (relations : List OsmRelation) → All (λ relation. is_restriction relation.tags ≡ false) relations → filter_map row_of relations ≡ []
no_rows [] none = refl
no_rows (relation ∷ relations) none =
    ap (λ o. cons_option o (filter_map row_of relations)) (no_row relation (All-head (λ r. is_restriction r.tags ≡ false) relation relations none))
    ∙ no_rows relations (All-tail (λ r. is_restriction r.tags ≡ false) relation relations none)

-- it has no turn restriction
pub no_turns : (x : Extract) → unbuilt x ≡ None → turn_rules x ≡ []
unfolding turn_rules
no_turns x built = ap (map rule_of) (no_rows x.relations (no_restriction x built))
