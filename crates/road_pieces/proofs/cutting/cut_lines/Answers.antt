use Rattle.std.proofs.Common.{◌≤◌, ◌+◌, sym, ap, ◌∙◌, subst, length, arith}
use Rattle.std.specs.Prelude.{All}
use Rattle.std.specs.List.{flat_map}
use Rattle.std.proofs.lemmas.List.{take_all}
use Rattle.std.proofs.lemmas.List.Sums.{sum_by-take-le}
use Rattle.road_pieces.specs.Lines.{Line, IsSound}
use Rattle.road_pieces.specs.Parts.{line_rows}
use Rattle.road_pieces.specs.Counts.{places_of_lines}
use Rattle.road_pieces.proofs.LineLemmas.{lines_sound}
use Rattle.road_pieces.proofs.EachLine.{at_line, sum_more}
use Rattle.road_pieces.proofs.CutLemmas.{few_places, few_lines, one_line_more}
use Rattle.road_pieces.proofs.cutting.cut_lines.Goals as goal

pub count_places-requires : goal.count_places-requires
count_places-requires c =
    subst (λ ls. places_of_lines ls ≤ 20_000_000) (sym c.requires.found) (few_places c.args.extract.now)

pub overflow_add-count_places : goal.overflow_add-count_places
overflow_add-count_places c =
    omega (arith, c.count_places.ensures, subst (λ ls. places_of_lines ls ≤ 20_000_000) (sym c.requires.found) (few_places c.args.extract.now))

pub cut_line-requires-clause-sound : goal.cut_line-requires-clause-sound
cut_line-requires-clause-sound c =
    at_line (IsSound c.args.extract.now) c.args.lines.now.done c.loop-i.i _ (omega arith) c.line.ensures
    (subst (All (IsSound c.args.extract.now)) (sym c.requires.found) (lines_sound c.args.extract.now))

pub cut_line-requires-clause-room : goal.cut_line-requires-clause-room
cut_line-requires-clause-room c =
    let line : Line = record { way = c.line.result.way; number = c.line.result.number; places = c.line.result.places.now } in
    omega (
      arith,
      c.loop-i.invariant.points,
      sum_more (λ l. length l.places) c.args.lines.now.done c.loop-i.i line (omega arith) c.line.ensures,
      sum_by-take-le (λ l. length l.places) c.args.lines.now.done (c.loop-i.i + 1),
      subst (λ ls. places_of_lines ls ≤ 20_000_000) (sym c.requires.found) (few_places c.args.extract.now),
    )

pub cut_line-requires-clause-names_room : goal.cut_line-requires-clause-names_room
cut_line-requires-clause-names_room c =
    omega (arith, c.loop-i.invariant.named, subst (λ ls. length ls ≤ 20_000_000) (sym c.requires.found) (few_lines c.args.extract.now))

pub loop-i-preserved : goal.loop-i-preserved
loop-i-preserved c =
    let line : Line = record { way = c.line.result.way; number = c.line.result.number; places = c.line.result.places.now } in
    one_line_more c.args.extract.now c.args.lines.now.done _ _ c.loop-i.i line (omega arith) c.line.ensures c.in_ok-cut_line.ensures.done c.in_ok-cut_line.ensures.points c.in_ok-cut_line.ensures.named c.loop-i.invariant

pub returns : goal.returns
returns c =
    c.finish.ensures ∙ (c.loop-i.invariant.done ∙ ap (flat_map (line_rows c.args.extract.now)) (take_all c.loop-i.i c.args.lines.now.done (omega arith) ∙ c.requires.found))
