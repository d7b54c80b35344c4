use Rattle.std.proofs.Common.{◌≡◌, [], sym, ◌∙◌, true}
use Rattle.std.proofs.lemmas.Bool.{eq-eqb, ne_eqb}
use Rattle.tile_bytes.proofs.OffsetLaws.{offset_wrong, offset_right}
use Rattle.tile_bytes.proofs.chain_section.after_edge.Goals as goal

pub returns-then-from-offset-clause-offsets : goal.returns-then-from-offset-clause-offsets
returns-then-from-offset-clause-offsets c = λ at edges.
    let is : c.args.edge.now.shortcut ≡ true = sym c.is_shortcut.ensures ∙ c.if-not-is_shortcut.false in
    offset_wrong at c.args.edge.now edges c.args.offset c.args.next c.args.chains.now (c.requires.next is) is (ne_eqb _ _ (λ (e : c.args.edge.now.chain ≡ c.args.offset). c.if-from-offset.true (c.from.ensures ∙ c.chain_place.ensures ∙ e)))

pub returns-clause-offsets : goal.returns-clause-offsets
returns-clause-offsets c = λ at edges.
    let is : c.args.edge.now.shortcut ≡ true = sym c.is_shortcut.ensures ∙ c.if-not-is_shortcut.false in
    offset_right at c.args.edge.now edges c.args.offset c.args.next c.args.chains.now c.at.result.now [] (c.requires.next is) is (eq-eqb _ _ (sym (c.from.ensures ∙ c.chain_place.ensures) ∙ c.if-from-offset.false)) (c.at.ensures [])
