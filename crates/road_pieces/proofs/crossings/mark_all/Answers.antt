use Rattle.std.proofs.Common.{◌≡◌, ◌+◌, ◌<◌, ℕ, List, sym, subst, min, take, length, arith}
use Rattle.std.specs.Prelude.{All, sum_by, slice_get, Some}
use Rattle.road_pieces.specs.Lines.{Line, marks_at}
use Rattle.road_pieces.proofs.EachLine.{at_line, sum_more}
use Rattle.road_pieces.proofs.crossings.mark_all.Goals as goal

-- one more line is counted
one_more : (p i : ℕ) (ls : List Line) (line : Line) (old now new : ℕ) → i < length ls → slice_get ls i ≡ Some line → min 2 now ≡ min 2 (old + sum_by (λ l. marks_at p l.places) (take i ls)) → min 2 new ≡ min 2 (now + marks_at p line.places) → min 2 new ≡ min 2 (old + sum_by (λ l. marks_at p l.places) (take (i + 1) ls))
one_more p i ls line old now new h e before step =
    omega (arith, before, step, sum_more (λ l. marks_at p l.places) ls i line h e)

pub mark_line-requires : goal.mark_line-requires
mark_line-requires c =
    subst (λ n. All (λ p. p < n) c.line.result.places.now) (sym c.loop-i.auto.marks)
    (at_line (λ l. All (λ p. p < length c.args.marks.now) l.places) c.args.lines.now.done c.loop-i.i _ (omega arith) c.line.ensures c.requires)

pub loop-i-preserved : goal.loop-i-preserved
loop-i-preserved c =
    λ p h. one_more p c.loop-i.i c.args.lines.now.done _ _ _ _ (omega arith) c.line.ensures (c.loop-i.invariant p h) (c.mark_line.ensures p (omega arith))
