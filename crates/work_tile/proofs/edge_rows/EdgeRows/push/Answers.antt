use Rattle.std.proofs.Common.{◌+◌, rules, ◌++◌, ◌∷◌, [], refl, ap, ◌∙◌}
use Rattle.work_tile.specs.PackedRows.{packed_rows}
use Rattle.work_tile.specs.EdgeWords.{work_edge_of, work_edge_words}
use Rattle.work_tile.proofs.Packed.{rows_more}
use Rattle.work_tile.proofs.EdgeBack.{EdgeInRange, edge_again}
use Rattle.work_tile.proofs.edge_rows.EdgeRows.push.Goals as goal

pub returns-in-Ok-clause-ok : goal.returns-in-Ok-clause-ok
unfolding work_edge_words
returns-in-Ok-clause-ok c =
    let words = c.self.inside.words.items in
    let count = c.self.inside.count in
    let range : EdgeInRange c.args.edge = record { way = search rules; run = search rules; piece = search rules; place = search rules; end = search rules; end_tile = search rules; cm = search rules; forward_access = search rules; reverse_access = search rules; local = search rules; class = search rules; mask = search rules; consistency = search rules } in
    ap (packed_rows work_edge_of 6 (count + 1)) (c.in-Ok.ensures.items ∙ ap (λ ws. words ++ ws) c.words_of-words.ensures)
    ∙ rows_more work_edge_of 6 count words (work_edge_words c.args.edge) c.self.invariant refl
    ∙ ap (λ r. packed_rows work_edge_of 6 count words ++ r ∷ []) (edge_again c.word_and_fields.ensures.back c.args.edge range)
    ∙ ap (λ r. r ++ c.args.edge ∷ []) c.self.view_is
