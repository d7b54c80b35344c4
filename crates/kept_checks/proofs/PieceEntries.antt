-- Each piece of an extract can have an entry, where the numbers of its key fit their bytes and its names are UTF-8.
use Rattle.std.proofs.Common.{◌≡◌, ℕ, refl, ◌+◌, ◌-◌, ◌<◌, ◌≤◌, ap, subst, List, [], ◌∷◌, ◌++◌, length, get_or, drop, ℤ, pos, Bool, true, false, cond, Option, Some, None, find, arith}
use Rattle.std.specs.Prelude.{All, slice_range}
use Rattle.std.specs.List.{enumerate_from}
use Rattle.std.specs.Option.{option_map_or}
use Rattle.std.specs.Ordering.{int_eq}
use Rattle.std.specs.Str.{is_utf8, bytes_eq}
use Rattle.std.proofs.lemmas.Int.{ints}
use Rattle.std.proofs.lemmas.List.{length-map, length-take, length-drop}
use Rattle.std.proofs.lemmas.List.Elements.{All-nil, All-cons, All-head, All-tail, All-append, All-map}
use Rattle.std.proofs.lemmas.List.Filters.{All-dedup}
use Rattle.fixed_geo.specs.Place.{IsPlace}
use Rattle.osm_model.specs.OsmNode.{IsPlaced}
use Rattle.osm_model.specs.Tags.{value_of}
use Rattle.osm_model.specs.declared.tags.Tag.{Tag}
use Rattle.osm_model.specs.declared.nodes.OsmNode.{OsmNode}
use Rattle.osm_model.specs.declared.ways.OsmWay.{OsmWay}
use Rattle.osm_model.specs.declared.extract.Extract.{Extract}
use Rattle.way_tags.specs.Names.{shown_text}
use Rattle.road_pieces.specs.declared.rows.Piece.{Piece}
use Rattle.road_pieces.specs.Lengths.{point_of, point}
use Rattle.road_pieces.specs.Rules.{names_of}
use Rattle.road_pieces.specs.Runs.{way_runs, is_junction}
use Rattle.road_pieces.specs.Rows.{stops, spans, course, piece_row, run_rows, way_rows, piece_rows}
use Rattle.road_pieces.proofs.Members.{IsIn, in_at, of_flat, of_map, of_numbered}
use Rattle.road_pieces.proofs.Spans.{IsSpan, stops_by, stops_are, sound}
use Rattle.tile_infos.specs.TileChecks.{HasEntry}
use Rattle.kept_checks.specs.KeptChecks.{IsSpellable}

-- ---- names

abbrev IsSome : List ℕ → Type 0
IsSome text = 0 < length text

shown_some : (o : Option (List ℕ)) → All IsSome (shown_text o)
shown_some None = All-nil IsSome
shown_some (Some []) = All-nil IsSome
shown_some (Some (b ∷ bs)) = All-cons IsSome (b ∷ bs) [] (omega arith) (All-nil IsSome)

names_some : (tags : List Tag) → All IsSome (names_of tags)
unfolding names_of
names_some tags =
    let name = value_of (Rattle.std.specs.Prelude.codes "name") tags in
    let ref = value_of (Rattle.std.specs.Prelude.codes "ref") tags in
    All-dedup bytes_eq IsSome (shown_text name ++ shown_text ref) (All-append IsSome (shown_text name) (shown_text ref) (shown_some name) (shown_some ref))

-- ---- courses

pub placed_at : (nodes : List OsmNode) (id : ℤ) → All IsPlaced nodes → IsPlace (point nodes id)
placed_at [] id h = record { from_south = omega (arith, ints); to_north = omega (arith, ints); from_west = omega (arith, ints); to_east = omega (arith, ints) }
placed_at (n ∷ ns) id h = by (int_eq n.id id) (placed_at ns id (All-tail IsPlaced n ns h))
  where
    by : (b : Bool) → IsPlace (point ns id) → IsPlace (option_map_or point_of (cond b (Some n) (find (λ m. int_eq m.id id) ns)) (record { lat = pos 0; lon = pos 0 }))
    by true rest =
        let p = All-head IsPlaced n ns h in
        record { from_south = p.from_south; to_north = p.to_north; from_west = p.from_west; to_east = p.to_east }
    by false rest = rest

course_placed : (x : Extract) (run : List ℤ) (from to : ℕ) → All IsPlace (course x.nodes run from to)
course_placed x run from to = All-map IsPlace (point x.nodes) (slice_range run from (to + 1)) (λ k d inside. placed_at x.nodes (get_or (slice_range run from (to + 1)) k d) x.placed)

course_long : (x : Extract) (run : List ℤ) (from to : ℕ) → from < to → to < length run → 2 ≤ length (course x.nodes run from to)
course_long x run from to rises inside =
    omega (arith, length-map (slice_range run from (to + 1)) (point x.nodes), length-take (to + 1 - from) (drop from run), length-drop from run, rises, inside)

-- ---- pieces

-- the piece is made of some way and a part of a run
record IsMade (x : Extract) (p : Piece) : Type 0 where
  way : OsmWay
  number : ℕ
  nodes : List ℤ
  piece : ℕ
  from : ℕ
  to : ℕ
  rises : from < to
  inside : to < length nodes
  same : piece_row x way number nodes piece from to ≡ p

module _ (x : Extract) where
  made_so : (p : Piece) → IsIn (piece_rows x) p → IsMade x p
  made_so p h =
      let (w, (on, in_way)) = of_flat (way_rows x) x.ways p h in
      let (e, (numbered, in_run)) = of_flat (λ (number, r). run_rows x w number r) (enumerate_from 0 (way_runs x.nodes w)) p in_way in
      let (f, (listed, same)) = of_map (λ (piece, (from, to)). piece_row x w e.0 e.1 piece from to) (enumerate_from 0 (spans (stops (is_junction x) 0 e.1))) p in_run in
      let span_at = of_numbered 0 (spans (stops (is_junction x) 0 e.1)) f listed in
      let at : ℕ → Bool = λ k. is_junction x (get_or e.1 k (pos 0)) in
      let its : stops (is_junction x) 0 e.1 ≡ stops_by at 0 (length e.1) = stops_are (is_junction x) (pos 0) at e.1 0 (λ i l. ap at {x = 0 + i} {y = i} (omega arith)) in
      let in_spans : IsIn (spans (stops_by at 0 (length e.1))) f.1 = subst (λ ks. IsIn (spans ks) f.1) its (in_at (spans (stops (is_junction x) 0 e.1)) span_at.place f.1 f.1 span_at.inside (span_at.is f.1)) in
      let span : IsSpan at (0 + length e.1) f.1.0 f.1.1 = sound at (length e.1) 0 f.1.0 f.1.1 in_spans in
      record {
        way = w;
        number = e.0;
        nodes = e.1;
        piece = f.0;
        from = f.1.0;
        to = f.1.1;
        rises = span.rises;
        inside = omega (arith, span.inside);
        same = same;
      }

  entry_of : (p : Piece) → IsIn (piece_rows x) p → IsSpellable p → HasEntry p
  entry_of p h fits =
      let made : IsMade x p = made_so p h in
      let names : All IsSome p.names = subst (λ (q : Piece). All IsSome q.names) made.same (names_some made.way.tags) in
      record {
        key = fits.key;
        two_points = subst (λ (q : Piece). 2 ≤ length q.shape) made.same (course_long x made.nodes made.from made.to made.rises made.inside);
        places = subst (λ (q : Piece). All IsPlace q.shape) made.same (course_placed x made.nodes made.from made.to);
        names = λ k d inside. record { some = names k d inside; utf8 = fits.names k d inside };
      }

  pub entries_there : All IsSpellable (piece_rows x) → All HasEntry (piece_rows x)
  entries_there fit = λ k d inside. entry_of (get_or (piece_rows x) k d) (in_at (piece_rows x) k d (get_or (piece_rows x) k d) inside refl) (fit k d inside)
