use Rattle.std.proofs.Common.{◌-◌, refl, sym, ap, ◌∙◌, get_or, arith, []}
use Rattle.std.specs.Cmp.Lexicographic.{slice_cmp}
use Rattle.std.specs.Ordering.{nat_cmp}
use Rattle.std.specs.declared.cmp.Ordering.TheVariants as orders
use Rattle.tile_bytes.specs.declared.sequences.Sequence.{Sequence}
use Rattle.tile_bytes.proofs.WordLists.{risen}
use Rattle.tile_bytes.proofs.sequence_section.rises_behind.Goals as goal

nothing : Sequence
nothing = record { edges = []; modes = 0 }

pub returns-in-Less : goal.returns-in-Less
returns-in-Less c =
    let s : Sequence = record { edges = c.args.words.now; modes = c.args.modes } in
    risen c.args.sequences.now s nothing orders.Less (get_or c.args.sequences.now (c.len-len.result - 1) nothing).modes c.len-len.result c.len-len.ensures (omega arith)
    (sym c.in-Less.is ∙ c.compare.ensures ∙ ap (λ e. slice_cmp nat_cmp e c.args.words.now) (c.edges.ensures nothing)) refl

pub returns-in-Equal : goal.returns-in-Equal
returns-in-Equal c =
    let s : Sequence = record { edges = c.args.words.now; modes = c.args.modes } in
    risen c.args.sequences.now s nothing orders.Equal c.modes.result c.len-len.result c.len-len.ensures (omega arith)
    (sym c.in-Equal.is ∙ c.compare.ensures ∙ ap (λ e. slice_cmp nat_cmp e c.args.words.now) (c.edges.ensures nothing)) (c.modes.ensures nothing)

pub returns-in-Greater : goal.returns-in-Greater
returns-in-Greater c =
    let s : Sequence = record { edges = c.args.words.now; modes = c.args.modes } in
    risen c.args.sequences.now s nothing orders.Greater (get_or c.args.sequences.now (c.len-len.result - 1) nothing).modes c.len-len.result c.len-len.ensures (omega arith)
    (sym c.in-Greater.is ∙ c.compare.ensures ∙ ap (λ e. slice_cmp nat_cmp e c.args.words.now) (c.edges.ensures nothing)) refl
