use Rattle.std.proofs.Common.{◌≡◌, drop, rules, arith}
use Rattle.std.proofs.lemmas.List.{length-drop}
use Rattle.section_grammar.specs.WordBytes.{words_in}
use Rattle.tile_bytes.proofs.WordLists.{word_filled}
use Rattle.tile_bytes.proofs.sequence_section.fill_words.Goals as goal

pub loop-preserved : goal.loop-preserved
loop-preserved c =
    let after : c.split_at.result.1.now ≡ drop 8 c.loop.rest.now = search rules in
    rw (c.in_ok-push.ensures.items, c.word.ensures, after) (
      word_filled c.loop.words.items c.args.count c.loop.counter c.loop.rest.now (words_in c.args.count c.args.bytes.now) c.loop-test.true c.loop.invariant.0,
      omega (arith, length-drop 8 c.loop.rest.now),
    )
