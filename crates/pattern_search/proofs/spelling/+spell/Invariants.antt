-- The words so far are those of the letters so far.
use Rattle.std.proofs.Common.{◌≡◌, ◌≤◌, ◌+◌, ◌-◌, ◌*◌, length, map, take}
use Rattle.std.specs.List.{flat_map}
use Rattle.pattern_search.specs.Members.{by_sets}
use Rattle.pattern_search.specs.Spelling.{AddedUpTo, begun_with, state_of, words_with}
use Rattle.pattern_search.proofs.spelling.+spell.Given as goal

abbrev pub decreases-spell : goal.decreases-spell
decreases-spell g l = 3 * l.most

abbrev pub decreases-spell_letter : goal.decreases-spell_letter
decreases-spell_letter g l = 3 * l.more + 2

abbrev pub decreases-spell_on : goal.decreases-spell_on
decreases-spell_on g l = 3 * l.more + 1

abbrev pub invariant-spell-loop-letter : goal.invariant-spell-loop-letter
invariant-spell-loop-letter g l =
    record {
      few : length l.found.items ≤ 257;
      word : l.word.items ≡ l.fn.word.items;
      found : AddedUpTo (map (λ w. w.items) l.fn.found.items) (map (λ w. w.items) l.found.items) (begun_with l.fn.word.items (flat_map (words_with (by_sets (g.R.Readable.members l.search)) (l.most - 1) (state_of l.from l.set)) (take l.letter-index l.letter-items)));
    }
