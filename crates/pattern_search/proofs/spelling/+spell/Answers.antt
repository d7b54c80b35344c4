use Rattle.std.proofs.Common.{rules, ◌≡◌, refl, sym, ◌∙◌, ap, subst, ◌∷◌, ◌≤◌, ◌-◌, length, map, get_or, true}
use Rattle.std.specs.Prelude.{option_map}
use Rattle.std.specs.List.{flat_map}
use Rattle.std.proofs.lemmas.List.{take_all}
use Rattle.pattern_search.specs.Members.{by_sets}
use Rattle.pattern_search.specs.Words.{ended_word, words_of, led_words}
use Rattle.pattern_search.specs.Spelling.{AddedUpTo, begun_with, state_of, state_of_some, words_with}
use Rattle.pattern_search.proofs.Adding.{nothing, full, few_of, added_letter, words_step, with_parts, begun_letter}
use Rattle.pattern_search.proofs.spelling.+spell.Goals as goal

pub spell-returns-then-most-eq0-clause-found : goal.spell-returns-then-most-eq0-clause-found
spell-returns-then-most-eq0-clause-found g t c =
    subst (λ n. AddedUpTo (map (λ w. w.items) c.args.found.now.items) (map (λ w. w.items) c.args.found.now.items) (begun_with c.args.word.now.items (words_of (by_sets (g.R.Readable.members c.args.search.now)) n (state_of c.args.from c.args.set.now)))) (sym c.if-most-eq0.true) (nothing (λ w. w.items) c.args.found.now.items c.requires.few)

pub spell-loop-letter-init : goal.spell-loop-letter-init
spell-loop-letter-init g t c = record { few = c.requires.few; word = refl; found = nothing (λ w. w.items) c.args.found.now.items c.requires.few }

pub spell-spell_letter-requires : goal.spell-spell_letter-requires
spell-spell_letter-requires g t c κs within =
    let letter : g.R.Readable.is_letter c.args.search.now (get_or c.letters-letter-items.result.now c.loop-letter.letter-index 0) ≡ true = c.letters-letter-items.ensures.are c.loop-letter.letter-index 0 c.loop-letter-test.true in
    search (rules, letter)

pub spell-loop-letter-preserved : goal.spell-loop-letter-preserved
spell-loop-letter-preserved g t c =
    record {
      few = few_of (λ w. w.items) _ c.spell_letter.new.found.items _ c.in_ok-spell_letter.ensures.found;
      word = c.in_ok-spell_letter.ensures.word ∙ c.loop-letter.invariant.word;
      found = added_letter (map (λ w. w.items) c.args.found.now.items) (map (λ w. w.items) c.loop-letter.found.items) (map (λ w. w.items) c.spell_letter.new.found.items) c.args.word.now.items (words_with (by_sets (g.R.Readable.members c.args.search.now)) (c.args.most - 1) (state_of c.args.from c.args.set.now)) c.letters-letter-items.result.now c.loop-letter.letter-index 0 c.loop-letter-test.true c.loop-letter.invariant.found (subst (λ u. AddedUpTo (map (λ w. w.items) c.loop-letter.found.items) (map (λ w. w.items) c.spell_letter.new.found.items) (begun_with u (words_with (by_sets (g.R.Readable.members c.args.search.now)) (c.args.most - 1) (state_of c.args.from c.args.set.now) (get_or c.letters-letter-items.result.now c.loop-letter.letter-index 0)))) c.loop-letter.invariant.word c.in_ok-spell_letter.ensures.found);
    }

pub spell-returns-clause-found : goal.spell-returns-clause-found
spell-returns-clause-found g t c =
    let all = take_all c.loop-letter.letter-index c.letters-letter-items.result.now c.loop-letter-test.false in
    subst (λ l. AddedUpTo (map (λ w. w.items) c.args.found.now.items) (map (λ w. w.items) c.loop-letter.found.items) (begun_with c.args.word.now.items l))
    (ap (flat_map (words_with (by_sets (g.R.Readable.members c.args.search.now)) (c.args.most - 1) (state_of c.args.from c.args.set.now))) (all ∙ c.letters-letter-items.ensures.letters) ∙ sym (words_step (by_sets (g.R.Readable.members c.args.search.now)) c.args.most (state_of c.args.from c.args.set.now) c.if-most-eq0.false))
    c.loop-letter.invariant.found

pub spell_letter-returns-then-len-ge-STOP-clause-found :
    goal.spell_letter-returns-then-len-ge-STOP-clause-found
spell_letter-returns-then-len-ge-STOP-clause-found g t c =
    let few : length c.push_word.new.found.items ≤ 257 = few_of (λ w. w.items) _ c.push_word.new.found.items _ c.in_ok-push_word.ensures in
    with_parts (map (λ w. w.items) c.args.found.now.items) (map (λ w. w.items) c.push_word.new.found.items) (map (λ w. w.items) c.push_word.new.found.items) c.args.word.now.items (by_sets (g.R.Readable.members c.args.search.now)) c.args.more (state_of c.args.from c.args.set.now) c.args.letter
    (subst (λ b. AddedUpTo (map (λ w. w.items) c.args.found.now.items) (map (λ w. w.items) c.push_word.new.found.items) (begun_with c.args.word.now.items (ended_word b c.args.letter))) c.may_end.ensures (subst (λ u. AddedUpTo (map (λ w. w.items) c.args.found.now.items) (map (λ w. w.items) c.push_word.new.found.items) (begun_with u (ended_word c.may_end.result c.args.letter))) c.deref.ensures.value c.in_ok-push_word.ensures))
    (full (λ w. w.items) c.push_word.new.found.items _ few (search rules))

pub spell_letter-returns-clause-found : goal.spell_letter-returns-clause-found
spell_letter-returns-clause-found g t c =
    with_parts (map (λ w. w.items) c.args.found.now.items) (map (λ w. w.items) c.push_word.new.found.items) (map (λ w. w.items) c.spell_on.new.found.items) c.args.word.now.items (by_sets (g.R.Readable.members c.args.search.now)) c.args.more (state_of c.args.from c.args.set.now) c.args.letter
    (subst (λ b. AddedUpTo (map (λ w. w.items) c.args.found.now.items) (map (λ w. w.items) c.push_word.new.found.items) (begun_with c.args.word.now.items (ended_word b c.args.letter))) c.may_end.ensures (subst (λ u. AddedUpTo (map (λ w. w.items) c.args.found.now.items) (map (λ w. w.items) c.push_word.new.found.items) (begun_with u (ended_word c.may_end.result c.args.letter))) c.deref.ensures.value c.in_ok-push_word.ensures))
    (subst (λ o. AddedUpTo (map (λ w. w.items) c.push_word.new.found.items) (map (λ w. w.items) c.spell_on.new.found.items) (begun_with c.args.word.now.items (led_words (words_of (by_sets (g.R.Readable.members c.args.search.now)) c.args.more) c.args.letter o)))
    (ap (λ o. state_of_some c.args.letter (option_map (λ s. s.items) o)) (sym c.in-Some.is) ∙ c.in_ok-next.ensures.next)
    (subst (λ u. AddedUpTo (map (λ w. w.items) c.push_word.new.found.items) (map (λ w. w.items) c.spell_on.new.found.items) (begun_with c.args.word.now.items (map (λ w. c.args.letter ∷ w) (words_of (by_sets (g.R.Readable.members c.args.search.now)) c.args.more (state_of c.args.letter u))))) c.deref-2.ensures.value c.in_ok-spell_on.ensures.found))

pub spell_on-returns-clause-found : goal.spell_on-returns-clause-found
spell_on-returns-clause-found g t c =
    subst (AddedUpTo (map (λ w. w.items) c.args.found.now.items) (map (λ w. w.items) c.spell.new.found.items))
    (begun_letter c.args.word.now.items c.args.letter (words_of (by_sets (g.R.Readable.members c.args.search.now)) c.args.more (state_of c.args.letter c.args.next.now)))
    (subst (λ u. AddedUpTo (map (λ w. w.items) c.args.found.now.items) (map (λ w. w.items) c.spell.new.found.items) (begun_with u (words_of (by_sets (g.R.Readable.members c.args.search.now)) c.args.more (state_of c.args.letter c.args.next.now)))) c.in_ok-push.ensures.items c.in_ok-spell.ensures.found)
