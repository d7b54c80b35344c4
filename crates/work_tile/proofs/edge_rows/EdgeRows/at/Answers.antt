use Rattle.std.proofs.Common.{◌≡◌, ◌<◌, ◌≤◌, ◌+◌, ◌-◌, ◌*◌, length, take, drop, get_or, rules, sym, ap, ◌∙◌, arith}
use Rattle.work_tile.specs.EdgeWords.{work_edge_of}
use Rattle.work_tile.proofs.Packed.{many_rows, row_at}
use Rattle.work_tile.proofs.edge_rows.EdgeRows.at.Goals as goal

pub overflow_mul-i : goal.overflow_mul-i
overflow_mul-i c = let within : 6 * c.args.i + 6 ≤ length c.self.inside.words.items = omega (arith, c.requires, c.self.invariant, many_rows work_edge_of 6 c.self.inside.count c.self.inside.words.items, ap length c.self.view_is) in search rules

pub overflow_mul-i-2 : goal.overflow_mul-i-2
overflow_mul-i-2 c = let within : 6 * c.args.i + 6 ≤ length c.self.inside.words.items = omega (arith, c.requires, c.self.invariant, many_rows work_edge_of 6 c.self.inside.count c.self.inside.words.items, ap length c.self.view_is) in search rules

pub overflow_add-i : goal.overflow_add-i
overflow_add-i c = let within : 6 * c.args.i + 6 ≤ length c.self.inside.words.items = omega (arith, c.requires, c.self.invariant, many_rows work_edge_of 6 c.self.inside.count c.self.inside.words.items, ap length c.self.view_is) in search rules

pub offset_bounds-deref-i : goal.offset_bounds-deref-i
offset_bounds-deref-i c = let within : 6 * c.args.i + 6 ≤ length c.self.inside.words.items = omega (arith, c.requires, c.self.invariant, many_rows work_edge_of 6 c.self.inside.count c.self.inside.words.items, ap length c.self.view_is) in let small : 6 * c.args.i * 8 < 18446744073709551616 = omega (arith, within, c.deref.type_inv.1, ap length c.deref.ensures.value) in search rules

pub slice_bounds-edge_in-end : goal.slice_bounds-edge_in-end
slice_bounds-edge_in-end c = let within : 6 * c.args.i + 6 ≤ length c.self.inside.words.items = omega (arith, c.requires, c.self.invariant, many_rows work_edge_of 6 c.self.inside.count c.self.inside.words.items, ap length c.self.view_is) in let inside : 6 * c.args.i + 6 ≤ length c.deref.result.now = omega (arith, within, ap length c.deref.ensures.value) in search rules

pub returns : goal.returns
returns c =
    let inside : c.args.i < c.self.inside.count = omega (arith, c.requires, many_rows work_edge_of 6 c.self.inside.count c.self.inside.words.items, ap length c.self.view_is) in
    let width : 6 * c.args.i + 6 - 6 * c.args.i ≡ 6 = omega arith in
    c.edge_in.ensures
    ∙ ap (λ ws. work_edge_of (take (6 * c.args.i + 6 - 6 * c.args.i) (drop (6 * c.args.i) ws))) c.deref.ensures.value
    ∙ ap (λ k. work_edge_of (take k (drop (6 * c.args.i) c.self.inside.words.items))) width
    ∙ sym (row_at work_edge_of 6 c.self.inside.count c.args.i c.self.inside.words.items c.edge_in.result inside)
    ∙ ap (λ rs. get_or rs c.args.i c.edge_in.result) c.self.view_is
