use Rattle.std.proofs.Common.{◌≡◌, ◌↔◌, true, subst, sym}
use Rattle.std.specs.Prelude.{bit_and, codes}
use Rattle.std.specs.Str.{bytes_eq}
use Rattle.std.proofs.lemmas.Bool.{false_from_ne_true}
use Rattle.std.proofs.lemmas.Slice.Eq.{bytes_eq-Decides}
use Rattle.way_tags.specs.Modes.{HasMode, is_listed}
use Rattle.way_tags.specs.Nodes.{is_passed, barrier_modes}
use Rattle.way_tags.proofs.Words.{within_all, has_mode}
use Rattle.way_tags.proofs.Deciding.{passed_by_value}
use Rattle.way_tags.proofs.nodes.node_access.Goals as goal

pub returns-in-Some-clause-word : goal.returns-in-Some-clause-word
returns-in-Some-clause-word c = passed_by_value c.args.tags.now c.in-Some.barrier.now c.decided_modes.result (sym c.in-Some.ensures) (false_from_ne_true (bytes_eq c.in-Some.barrier.now (codes "no")) (λ e. c.in-Some.not-no ((bytes_eq-Decides c.in-Some.barrier.now (codes "no")).0 e))) (c.decided_modes.ensures (is_listed (barrier_modes c.in-Some.barrier.now)) c.modes_at_barrier.ensures)

pub returns-in-Some-clause-modes : goal.returns-in-Some-clause-modes
returns-in-Some-clause-modes c mode = subst (λ w. HasMode w mode ↔ (is_passed c.args.tags.now mode ≡ true)) (sym (returns-in-Some-clause-word c)) (has_mode (is_passed c.args.tags.now) mode)

pub returns-in-Some-clause-within : goal.returns-in-Some-clause-within
returns-in-Some-clause-within c = subst (λ w. bit_and w 79 ≡ w) (sym (returns-in-Some-clause-word c)) (within_all (is_passed c.args.tags.now))
