use Rattle.std.proofs.Common.{rules, ◌≡◌, sym, ◌∙◌, ap, subst, ◌∷◌, [], map, take, get_or, arith}
use Rattle.std.proofs.lemmas.List.{take_all}
use Rattle.pattern_search.specs.Members.{by_sets}
use Rattle.pattern_search.specs.Words.{words_of}
use Rattle.pattern_search.specs.Spelling.{AddedUpTo, begun_with, members_in, state_of, words_from}
use Rattle.pattern_search.proofs.Adding.{added_none, few_of, added_letter, begun_none}
use Rattle.pattern_search.proofs.spelling.find_words.Goals as goal

pub loop-first-init : goal.loop-first-init
loop-first-init g c =
    let empty : c.new-found.result.items ≡ [] = search rules in
    record {
      few = search rules;
      word = search rules;
      found = subst (λ l. AddedUpTo [] (map (λ w. w.items) l) []) (sym empty) (added_none [] (omega arith));
    }

pub loop-first-preserved : goal.loop-first-preserved
loop-first-preserved g c =
    record {
      few = few_of (λ w. w.items) _ c.spell_on.new.found.items _ c.in_ok-spell_on.ensures.found;
      word = c.in_ok-spell_on.ensures.word ∙ c.loop-first.invariant.word;
      found = added_letter [] (map (λ w. w.items) c.loop-first.found.items) (map (λ w. w.items) c.spell_on.new.found.items) [] (λ p. map (λ w. p ∷ w) (words_of (by_sets (g.R.Readable.members c.args.search.now)) c.args.most (state_of p c.args.start.now))) c.args.firsts.now c.loop-first.first-index 0 c.loop-first-test.true c.loop-first.invariant.found
          (subst (λ u. AddedUpTo (map (λ w. w.items) c.loop-first.found.items) (map (λ w. w.items) c.spell_on.new.found.items) (begun_with u (map (λ w. get_or c.args.firsts.now c.loop-first.first-index 0 ∷ w) (words_of (by_sets (g.R.Readable.members c.args.search.now)) c.args.most (state_of (get_or c.args.firsts.now c.loop-first.first-index 0) c.args.start.now))))) c.loop-first.invariant.word c.in_ok-spell_on.ensures.found);
    }

pub returns : goal.returns
returns g c =
    c.loop-first.invariant.found.is
    ∙ ap (take 257) (begun_none (words_from (by_sets (g.R.Readable.members c.args.search.now)) c.args.most (members_in c.args.start.now) (take c.loop-first.first-index c.args.firsts.now)))
    ∙ ap (λ l. take 257 (words_from (by_sets (g.R.Readable.members c.args.search.now)) c.args.most (members_in c.args.start.now) l)) (take_all c.loop-first.first-index c.args.firsts.now c.loop-first-test.false)
