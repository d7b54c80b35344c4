use Rattle.std.proofs.Common.{◌+◌, rules, ◌++◌, ◌∷◌, [], refl, ap, ◌∙◌}
use Rattle.work_tile.specs.PackedRows.{packed_rows}
use Rattle.work_tile.specs.NodeWords.{work_node_of, work_node_words}
use Rattle.work_tile.proofs.Packed.{rows_more}
use Rattle.work_tile.proofs.NodeBack.{NodeInRange, row_again}
use Rattle.work_tile.proofs.node_rows.NodeRows.push.Goals as goal

pub returns-in-Ok-clause-ok : goal.returns-in-Ok-clause-ok
unfolding work_node_words
returns-in-Ok-clause-ok c =
    let words = c.self.inside.words.items in
    let count = c.self.inside.count in
    let range : NodeInRange c.args.row = record { osm = search rules; lat = search rules; lon = search rules; from = search rules; access = search rules; density = search rules } in
    ap (packed_rows work_node_of 3 (count + 1)) (c.in-Ok.ensures.items ∙ ap (λ ws. words ++ ws) c.words_of-words.ensures)
    ∙ rows_more work_node_of 3 count words (work_node_words c.args.row) c.self.invariant refl
    ∙ ap (λ r. packed_rows work_node_of 3 count words ++ r ∷ []) (row_again c.word_and_fields.ensures.back c.args.row range)
    ∙ ap (λ r. r ++ c.args.row ∷ []) c.self.view_is
