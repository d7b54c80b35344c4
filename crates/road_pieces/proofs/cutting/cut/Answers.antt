use Rattle.std.proofs.Common.{◌≡◌, ◌<◌, ◌≤◌, ℕ, List, Bool, sym, ap, ◌∙◌, subst, inr, length, map, get_or}
use Rattle.std.specs.Prelude.{All, Option, find, option_map, nat_lt}
use Rattle.std.proofs.lemmas.List.{length-map}
use Rattle.osm_model.specs.declared.extract.Extract.{Extract}
use Rattle.road_pieces.specs.Runs.{is_junction}
use Rattle.road_pieces.specs.Rows.{piece_rows, too_long}
use Rattle.road_pieces.specs.declared.rows.Piece.{Piece}
use Rattle.road_pieces.specs.declared.faults.CutFault.{CutFault}
use Rattle.road_pieces.specs.Lines.{Line, IsSound, all_lines}
use Rattle.road_pieces.specs.Counts.{pieces_of_lines, places_of_lines}
use Rattle.road_pieces.proofs.LineLemmas.{lines_sound}
use Rattle.road_pieces.proofs.CutLemmas.{rows_are, counted_all, few_places, as_many, refuse_many, refuse_long}
use Rattle.road_pieces.proofs.cutting.cut.Goals as goal

-- the places of lines are places of flags
inside : (x : Extract) (ls : List Line) (flags : List Bool) → ls ≡ all_lines x → flags ≡ map (λ n. is_junction x n.id) x.nodes → All (λ l. All (λ p. p < length flags) l.places) ls
inside x ls flags e f =
    λ k d h. subst (λ m. All (λ p. p < m) (get_or ls k d).places) (sym (ap length f ∙ length-map x.nodes (λ n. is_junction x n.id)))
    (subst (All (IsSound x)) (sym e) (lines_sound x) k d h).places

-- the count is that of the pieces
counted : (x : Extract) (ls : List Line) (flags : List Bool) (count : ℕ) → ls ≡ all_lines x → flags ≡ map (λ n. is_junction x n.id) x.nodes → count ≡ pieces_of_lines flags ls → count ≡ length (piece_rows x)
counted x ls flags count e f is = is ∙ (ap (pieces_of_lines flags) e ∙ counted_all x flags f)

abbrev first_long : List Piece → Option CutFault
first_long pieces = option_map too_long (find (λ p. nat_lt 268_435_455 p.cm) pieces)

pub count_pieces-count-requires-clause-inside : goal.count_pieces-count-requires-clause-inside
count_pieces-count-requires-clause-inside c =
    inside c.args.extract.now _ _ c.in_ok-lines.ensures.lines (c.as_slice.ensures.value ∙ c.in_ok-flags.ensures)

pub count_pieces-count-requires-clause-short : goal.count_pieces-count-requires-clause-short
count_pieces-count-requires-clause-short c =
    subst (λ ls. places_of_lines ls ≤ 20_000_000) (sym c.in_ok-lines.ensures.lines) (few_places c.args.extract.now)

pub returns-then-count-gt-MOST_PIECES-clause-refused : goal.returns-then-count-gt-MOST_PIECES-clause-refused
returns-then-count-gt-MOST_PIECES-clause-refused c =
    inr (refuse_many (piece_rows c.args.extract.now) c.count_pieces-count.result
    (counted c.args.extract.now _ _ _ c.in_ok-lines.ensures.lines (c.as_slice.ensures.value ∙ c.in_ok-flags.ensures) c.count_pieces-count.ensures) c.if-count-gt-MOST_PIECES.true)

pub returns-in-Some-clause-refused : goal.returns-in-Some-clause-refused
returns-in-Some-clause-refused c =
    inr (refuse_long (piece_rows c.args.extract.now) c.count_pieces-count.result _
    (counted c.args.extract.now _ _ _ c.in_ok-lines.ensures.lines (c.as_slice.ensures.value ∙ c.in_ok-flags.ensures) c.count_pieces-count.ensures) c.if-count-gt-MOST_PIECES.false
    (c.in-Some.ensures ∙ ap first_long (c.in_ok-pieces.ensures ∙ rows_are c.args.extract.now)))

pub returns-clause-roads : goal.returns-clause-roads
returns-clause-roads c = record {
  junctions = c.from_vec.ensures ∙ c.in_ok-junctions.ensures;
  pieces = c.in_ok-pieces.ensures ∙ rows_are c.args.extract.now;
  ways = c.in_ok-lines.ensures.ways;
  runs = c.len-runs.ensures ∙ (ap length c.in_ok-lines.ensures.lines ∙ as_many c.args.extract.now);
  missing = c.in_ok-lines.ensures.missing;
}

pub returns-clause-accepted : goal.returns-clause-accepted
returns-clause-accepted c =
    refuse_long (piece_rows c.args.extract.now) c.count_pieces-count.result _
    (counted c.args.extract.now _ _ _ c.in_ok-lines.ensures.lines (c.as_slice.ensures.value ∙ c.in_ok-flags.ensures) c.count_pieces-count.ensures) c.if-count-gt-MOST_PIECES.false
    (c.in_default.ensures ∙ ap first_long (c.in_ok-pieces.ensures ∙ rows_are c.args.extract.now))
