-- The words of the first letters so far.
use Rattle.std.proofs.Common.{◌≡◌, ◌≤◌, [], length, map, take}
use Rattle.pattern_search.specs.Members.{by_sets}
use Rattle.pattern_search.specs.Spelling.{AddedUpTo, begun_with, members_in, words_from}
use Rattle.pattern_search.proofs.spelling.find_words.Given as goal

abbrev pub invariant-loop-first : goal.invariant-loop-first
invariant-loop-first g l =
    record {
      few : length l.found.items ≤ 257;
      word : l.word.items ≡ [];
      found : AddedUpTo [] (map (λ w. w.items) l.found.items) (begun_with [] (words_from (by_sets (g.R.Readable.members l.search)) l.most (members_in l.start) (take l.first-index l.firsts)));
    }
