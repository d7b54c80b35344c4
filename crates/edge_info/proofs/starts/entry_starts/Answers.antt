use Rattle.std.proofs.Common.{◌≡◌, ◌+◌, ◌<◌, ◌/◌, ◌%◌, length, take, refl, sym, ap, subst, ◌∙◌, arith}
use Rattle.std.proofs.lemmas.List.{length-replicate}
use Rattle.edge_info.specs.Entries.{infos_bytes, starts_of}
use Rattle.edge_info.specs.Starts.{MarkStarts, with_mark}
use Rattle.edge_info.proofs.StartLaws.{size_step, size_le, starts_step, info_length, part_by_fours, marks_none, marks_step, length-with_mark}
use Rattle.edge_info.proofs.starts.entry_starts.Goals as goal

pub loop-i-init : goal.loop-i-init
loop-i-init c = (
  marks_none _ c.in_ok-marks.marks.items c.in_ok-marks.ensures,
  ap length c.in_ok-marks.ensures ∙ length-replicate _ _,
  refl,
)

pub size_of-at-requires : goal.size_of-at-requires
size_of-at-requires c =
    let s = size_step c.args.infos.now c.loop-i.i c.at.result (omega (arith, c.loop-i-test.true, c.len-i-end.ensures)) c.at.ensures in
    let t = size_le c.args.infos.now (c.loop-i.i + 1) in
    omega (arith, s, t, c.requires, c.ranges.size.fits)

pub overflow_add-at : goal.overflow_add-at
overflow_add-at c =
    let s = size_step c.args.infos.now c.loop-i.i c.at.result (omega (arith, c.loop-i-test.true, c.len-i-end.ensures)) c.at.ensures in
    let t = size_le c.args.infos.now (c.loop-i.i + 1) in
    omega (arith, s, t, c.requires, c.ranges.size.fits, c.loop-i.invariant.2, c.size_of-at.ensures)

pub loop-i-preserved : goal.loop-i-preserved
loop-i-preserved c =
    let lt : c.loop-i.i < length c.args.infos.now = omega (arith, c.loop-i-test.true, c.len-i-end.ensures) in
    let s = size_step c.args.infos.now c.loop-i.i c.at.result lt c.at.ensures in
    let t = size_le c.args.infos.now (c.loop-i.i + 1) in
    let n = starts_step c.args.infos.now c.loop-i.i c.loop-i.at lt c.loop-i.invariant.2 in
    let inside : c.loop-i.at / 4 < length c.loop-i.marks.items = omega (arith, s, t, c.requires, info_length c.at.result, c.loop-i.invariant.1, c.loop-i.invariant.2) in
    let by : c.loop-i.at % 4 ≡ 0 = part_by_fours c.args.infos.now c.loop-i.i c.loop-i.at c.loop-i.invariant.2 in
    rw c.mark.ensures (
      subst (MarkStarts (with_mark c.loop-i.marks.items c.loop-i.at)) (sym n) (marks_step c.loop-i.marks.items (starts_of (take c.loop-i.i c.args.infos.now)) c.loop-i.at inside by c.loop-i.invariant.0),
      length-with_mark c.loop-i.marks.items c.loop-i.at ∙ c.loop-i.invariant.1,
      omega (arith, s, c.loop-i.invariant.2, c.size_of-at.ensures),
    )
