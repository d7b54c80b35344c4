use Rattle.std.proofs.Common.{◌≡◌, ◌∙◌, ap, ◌||◌}
use Rattle.std.specs.Prelude.{bit_and}
use Rattle.way_tags.specs.Modes.{word_of}
use Rattle.way_tags.specs.Oneways.{oneway_by_tags, is_along, is_exempt}
use Rattle.way_tags.specs.Ways.{is_open, road_row}
use Rattle.way_tags.proofs.Words.{both_words}
use Rattle.way_tags.proofs.Deciding.{open_by_row}
use Rattle.way_tags.proofs.ways.used_modes.Goals as goal

pub returns : goal.returns
returns c =
    let opened : c.decided_modes-open.result ≡ word_of (is_open c.args.tags.now) = open_by_row c.args.tags.now (road_row c.args.tags.now) c.args.road c.decided_modes-open.result c.requires.road c.decided_modes-open.ensures in
    ap (λ w. bit_and w c.modes_along.result) opened
    ∙ ap (λ w. bit_and (word_of (is_open c.args.tags.now)) w) c.modes_along.ensures
    ∙ both_words (is_open c.args.tags.now) (λ mode. is_along (oneway_by_tags c.args.tags.now) c.args.direction || is_exempt c.args.tags.now mode)
