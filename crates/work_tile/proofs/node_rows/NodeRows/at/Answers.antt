use Rattle.std.proofs.Common.{◌≡◌, ◌<◌, ◌≤◌, ◌+◌, ◌-◌, ◌*◌, length, take, drop, get_or, rules, sym, ap, ◌∙◌, arith}
use Rattle.work_tile.specs.NodeWords.{work_node_of}
use Rattle.work_tile.proofs.Packed.{many_rows, row_at}
use Rattle.work_tile.proofs.node_rows.NodeRows.at.Goals as goal

pub overflow_mul-i : goal.overflow_mul-i
overflow_mul-i c = let within : 3 * c.args.i + 3 ≤ length c.self.inside.words.items = omega (arith, c.requires, c.self.invariant, many_rows work_node_of 3 c.self.inside.count c.self.inside.words.items, ap length c.self.view_is) in search rules

pub overflow_mul-i-2 : goal.overflow_mul-i-2
overflow_mul-i-2 c = let within : 3 * c.args.i + 3 ≤ length c.self.inside.words.items = omega (arith, c.requires, c.self.invariant, many_rows work_node_of 3 c.self.inside.count c.self.inside.words.items, ap length c.self.view_is) in search rules

pub overflow_add-i : goal.overflow_add-i
overflow_add-i c = let within : 3 * c.args.i + 3 ≤ length c.self.inside.words.items = omega (arith, c.requires, c.self.invariant, many_rows work_node_of 3 c.self.inside.count c.self.inside.words.items, ap length c.self.view_is) in search rules

pub offset_bounds-deref-i : goal.offset_bounds-deref-i
offset_bounds-deref-i c = let within : 3 * c.args.i + 3 ≤ length c.self.inside.words.items = omega (arith, c.requires, c.self.invariant, many_rows work_node_of 3 c.self.inside.count c.self.inside.words.items, ap length c.self.view_is) in let small : 3 * c.args.i * 8 < 18446744073709551616 = omega (arith, within, c.deref.type_inv.1, ap length c.deref.ensures.value) in search rules

pub slice_bounds-row_in-end : goal.slice_bounds-row_in-end
slice_bounds-row_in-end c = let within : 3 * c.args.i + 3 ≤ length c.self.inside.words.items = omega (arith, c.requires, c.self.invariant, many_rows work_node_of 3 c.self.inside.count c.self.inside.words.items, ap length c.self.view_is) in let inside : 3 * c.args.i + 3 ≤ length c.deref.result.now = omega (arith, within, ap length c.deref.ensures.value) in search rules

pub returns : goal.returns
returns c =
    let inside : c.args.i < c.self.inside.count = omega (arith, c.requires, many_rows work_node_of 3 c.self.inside.count c.self.inside.words.items, ap length c.self.view_is) in
    let width : 3 * c.args.i + 3 - 3 * c.args.i ≡ 3 = omega arith in
    c.row_in.ensures
    ∙ ap (λ ws. work_node_of (take (3 * c.args.i + 3 - 3 * c.args.i) (drop (3 * c.args.i) ws))) c.deref.ensures.value
    ∙ ap (λ k. work_node_of (take k (drop (3 * c.args.i) c.self.inside.words.items))) width
    ∙ sym (row_at work_node_of 3 c.self.inside.count c.args.i c.self.inside.words.items c.row_in.result inside)
    ∙ ap (λ rs. get_or rs c.args.i c.row_in.result) c.self.view_is
