use Rattle.std.proofs.Common.{◌≡◌, ◌↔◌, true, subst, sym, ap, ◌∙◌, ◌||◌}
use Rattle.std.specs.Prelude.{bit_and}
use Rattle.way_tags.specs.Modes.{HasMode, word_of}
use Rattle.way_tags.specs.Oneways.{oneway_by_tags, is_along, is_exempt}
use Rattle.way_tags.specs.Ways.{is_open, is_permitted, Permits}
use Rattle.way_tags.proofs.Words.{both_words, within_all, has_mode}
use Rattle.way_tags.proofs.Deciding.{permits_tested}
use Rattle.way_tags.proofs.ways.access_of.Goals as goal

pub returns-clause-word : goal.returns-clause-word
returns-clause-word c =
    ap (λ w. bit_and w c.modes_along.result) c.open_modes-open.ensures
    ∙ ap (λ w. bit_and (word_of (is_open c.args.tags.now)) w) c.modes_along.ensures
    ∙ both_words (is_open c.args.tags.now) (λ mode. is_along (oneway_by_tags c.args.tags.now) c.args.direction || is_exempt c.args.tags.now mode)

pub returns-clause-modes : goal.returns-clause-modes
returns-clause-modes c mode =
    let tested : (is_permitted c.args.tags.now c.args.direction mode ≡ true) ↔ Permits c.args.tags.now c.args.direction mode = permits_tested c.args.tags.now c.args.direction mode in
    let bits : HasMode (bit_and c.open_modes-open.result c.modes_along.result) mode ↔ (is_permitted c.args.tags.now c.args.direction mode ≡ true) =
    subst (λ w. HasMode w mode ↔ (is_permitted c.args.tags.now c.args.direction mode ≡ true)) (sym (returns-clause-word c)) (has_mode (is_permitted c.args.tags.now c.args.direction) mode) in
    (λ h. tested.0 (bits.0 h), λ h. bits.1 (tested.1 h))

pub returns-clause-within : goal.returns-clause-within
returns-clause-within c = subst (λ w. bit_and w 79 ≡ w) (sym (returns-clause-word c)) (within_all (is_permitted c.args.tags.now c.args.direction))
