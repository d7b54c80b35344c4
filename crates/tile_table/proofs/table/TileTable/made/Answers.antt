use Rattle.std.proofs.Common.{◌≡◌, ℕ, ◌*◌, [], ◌++◌, length, map, replicate, Some, sym, ap, ◌∙◌, subst, arith}
use contract.BorrowLft.{◌⊑◌, ⊑_meet}
use mathlib.Core.List.{not-mem-nil}
use Rattle.atomic_table.specs.Table.{opening}
use Rattle.tile_table.specs.Shows.{Shows}
use Rattle.tile_table.proofs.FirstState.{opens}
use Rattle.tile_table.proofs.table.TileTable.made.Goals as goal

-- each lifetime in the type of an aim is one of the tiles'
pub of-aim-requires : goal.of-aim-requires
of-aim-requires g c κs within =
    let κ = κs.0 in
    let tiles = g.row.P-Tile.lives in
    let none : κ ⊑ [] = λ a m. absurd (not-mem-nil m) in
    let one = ⊑_meet κ tiles [] within none in
    let two = ⊑_meet κ (tiles ++ []) [] one none in
    let three = ⊑_meet κ ((tiles ++ []) ++ []) [] two none in
    let four = ⊑_meet κ (tiles ++ []) _ one three in
    let five = ⊑_meet κ _ [] four none in
    ⊑_meet κ (tiles ++ []) _ one (⊑_meet κ _ _ four five)

pub new-requires : goal.new-requires
new-requires g c =
    let tiles = c.args.tiles.items in
    let asked = c.requires.1.1.1.1.1 in
    let aim = asked.1.1 in
    let many : c.len-count.result ≡ length tiles = omega (arith, c.len-count.ensures, c.args.tiles.ok) in
    subst (λ ws. Shows (opening ws c.in_ok-slots.slots.items c.of-aim.result.view)) (sym (c.as_slice.ensures.value ∙ c.in_ok-words.ensures ∙ ap (λ n. replicate {A = ℕ} (3 * n) 0) many))
    (subst (λ xs. Shows (opening (replicate (3 * length tiles) 0) xs c.of-aim.result.view)) (sym c.in_ok-slots.ensures)
    (subst (λ v. Shows (opening (replicate (3 * length tiles) 0) (map Some tiles) v)) (sym (c.of-aim.ensures ∙ aim.2))
    (opens tiles aim.0 c.args.workers asked.0 aim.1)))
