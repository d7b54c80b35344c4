use Rattle.std.proofs.Common.{◌≡◌, ℕ, Bool, length, map, ◌+◌, [], ◌∷◌, ◌++◌, ap, sym, ◌∙◌, arith, add-one}
use Rattle.std.specs.Prelude.{option_map, unwrap_or}
use Rattle.std.specs.List.{range_with_len, list_any}
use Rattle.pattern_search.specs.ViaSets.{comes_to}
use Rattle.pattern_search.proofs.StepLaw.{range_push, state_made, none_made, made_length}
use Rattle.pattern_search.proofs.stepping.next_members.Goals as goal

pub loop-j-preserved : goal.loop-j-preserved
loop-j-preserved c =
    let test : ℕ → Bool = comes_to c.args.set.now c.args.can.now c.args.goes c.args.of.now in
    c.in_ok-push.ensures.items
    ∙ ap (λ l. l ++ c.may_be_at.result ∷ []) c.loop-j.invariant
    ∙ ap (λ b. map test (range_with_len 0 c.loop-j.j) ++ b ∷ []) (c.may_be_at.ensures ∙ ap test {x = c.loop-j.j} {y = 0 + c.loop-j.j} (omega arith))
    ∙ sym (range_push test 0 c.loop-j.j)
    ∙ ap (λ n. map test (range_with_len 0 n)) (sym (add-one c.loop-j.j))

pub returns-then-has_any-clause-next : goal.returns-then-has_any-clause-next
returns-then-has_any-clause-next c = λ letter.
    let test : ℕ → Bool = comes_to c.args.set.now c.args.can.now c.args.goes c.args.of.now in
    let all : c.loop-j.j ≡ length c.args.set.now = omega (arith, c.loop-j-test.false, c.loop-j.auto.j-end) in
    state_made letter test (length c.args.set.now) c.loop-j.next.items (c.loop-j.invariant ∙ ap (λ n. map test (range_with_len 0 n)) all) (ap (list_any (λ b. b)) (sym c.deref.ensures.value) ∙ sym c.has_any.ensures ∙ c.if-has_any.true)

pub returns-then-has_any-clause-size : goal.returns-then-has_any-clause-size
returns-then-has_any-clause-size c = λ x is.
    let test : ℕ → Bool = comes_to c.args.set.now c.args.can.now c.args.goes c.args.of.now in
    let all : c.loop-j.j ≡ length c.args.set.now = omega (arith, c.loop-j-test.false, c.loop-j.auto.j-end) in
    sym (ap (λ o. unwrap_or (option_map (λ s. length s.items) o) 0) is) ∙ ap length c.loop-j.invariant ∙ made_length test c.loop-j.j ∙ all

pub returns-else-has_any-clause-next : goal.returns-else-has_any-clause-next
returns-else-has_any-clause-next c = λ letter.
    let test : ℕ → Bool = comes_to c.args.set.now c.args.can.now c.args.goes c.args.of.now in
    let all : c.loop-j.j ≡ length c.args.set.now = omega (arith, c.loop-j-test.false, c.loop-j.auto.j-end) in
    none_made letter test (length c.args.set.now) c.loop-j.next.items (c.loop-j.invariant ∙ ap (λ n. map test (range_with_len 0 n)) all) (ap (list_any (λ b. b)) (sym c.deref.ensures.value) ∙ sym c.has_any.ensures ∙ c.if-has_any.false)
