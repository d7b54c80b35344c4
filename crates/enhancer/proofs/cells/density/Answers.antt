use Rattle.std.proofs.Common.{◌≡◌, ◌/◌, ◌==◌, ℕ, map, ap, ◌∙◌, arith}
use Rattle.std.specs.Prelude.{sum_by, min, filter}
use Rattle.std.specs.List.{range_with_len}
use Rattle.std.proofs.lemmas.List.FromFn.{sum_by-map-range_with_len_more}
use Rattle.enhancer.specs.Cells.{near_cell}
use Rattle.enhancer.specs.Density.{spot_cm}
use Rattle.enhancer.proofs.CellLaw.{cells_add}
use Rattle.enhancer.proofs.cells.density.Goals as goal

pub loop-k-preserved : goal.loop-k-preserved
loop-k-preserved c =
    let f : ℕ → ℕ = λ n. sum_by (spot_cm c.args.at) (filter (λ s. s.cell == n) c.args.spots.now) in
    let more = sum_by-map-range_with_len_more f (near_cell c.cell_at-cell.result) 0 c.loop-k.k c.loop-k.k (omega arith) in
    let here : f c.cell_beside.result ≡ f (near_cell c.cell_at-cell.result c.loop-k.k) = ap f c.cell_beside.ensures in
    omega (arith, more, here, c.loop-k.invariant, c.add_cell-total.ensures)

pub returns : goal.returns
returns c = λ placed place.
    let f : ℕ → ℕ = λ n. sum_by (spot_cm c.args.at) (filter (λ s. s.cell == n) c.args.spots.now) in
    let all : c.loop-k.k ≡ 9 = omega (arith, c.loop-k-test.false) in
    let sum = cells_add c.args.spots.now c.args.at c.cell_at-cell.result c.cell_at-cell.ensures.value c.cell_at-cell.ensures.below place c.requires.cells placed in
    ap (λ n. n / 1_000_000)
    (c.loop-k.invariant
    ∙ ap (λ k. min 15_000_000 (sum_by f (map (near_cell c.cell_at-cell.result) (range_with_len 0 k)))) all
    ∙ ap (min 15_000_000) sum)
