use Rattle.std.proofs.Common.{rules, sym, ◌∙◌, ap, subst, ◌∷◌, [], ◌<◌, ◌≤◌, ◌++◌, length, map}
use Rattle.pattern_search.specs.Words.{ended_word}
use Rattle.pattern_search.specs.Spelling.{AddedUpTo, begun_with}
use Rattle.pattern_search.proofs.Adding.{pushed, full, nothing}
use Rattle.pattern_search.proofs.spelling.push_word.Goals as goal
use Rattle.pattern_search.proofs.spelling.push_word.Goals.{else-ends-via-then-ends+else-len-lt-STOP, else-ends-via-else-ends}

pub returns-in_ok-push-2 : goal.returns-in_ok-push-2
returns-in_ok-push-2 c =
    let room : length c.args.found.now.items < 257 = search rules in
    subst (λ b. AddedUpTo (map (λ w. w.items) c.args.found.now.items) (map (λ w. w.items) c.push-then-len-lt-STOP.new.self.items) (begun_with c.args.word.now (ended_word b c.args.letter))) (sym c.if-ends.true)
    (pushed (λ w. w.items) c.args.found.now.items c.push-then-len-lt-STOP.new.self.items c.push.new.self (c.args.word.now ++ c.args.letter ∷ []) c.in_ok-push-2.ensures.items (c.in_ok-push.ensures.items ∙ ap (λ l. l ++ c.args.letter ∷ []) c.in_ok-whole.ensures.items) room)

pub returns-else-ends : goal.returns-else-ends
returns-else-ends c = elim c.else-ends.branch [
  | else-ends-via-then-ends+else-len-lt-STOP w ↦ (let no_room : 257 ≤ length c.args.found.now.items = search rules in full (λ w. w.items) c.args.found.now.items (begun_with c.args.word.now (ended_word c.args.ends c.args.letter)) c.requires no_room)
  | else-ends-via-else-ends w ↦ subst (λ b. AddedUpTo (map (λ w. w.items) c.args.found.now.items) (map (λ w. w.items) c.args.found.now.items) (begun_with c.args.word.now (ended_word b c.args.letter))) (sym w.if-ends.false) (nothing (λ w. w.items) c.args.found.now.items c.requires)
]
