use Rattle.std.proofs.Common.{ℕ, ◌∙◌, arith, ap, sym, refl, drop, ◌+◌}
use Rattle.osm_objects.specs.Steps.{each}
use Rattle.osm_objects.specs.Relations.{member_kind_of}
use Rattle.osm_objects.specs.Answers.{after}
use Rattle.osm_objects.proofs.Results.{after_nil, bind_is, bind_stop}
use Rattle.osm_objects.proofs.Exits.{Becomes-exit}
use Rattle.osm_objects.proofs.Loops.{each-more, each-end}
use Rattle.osm_objects.proofs.relations.read_kinds.Goals as goal

pub loop-i-init : goal.loop-i-init
loop-i-init c = rw c.clear.ensures.items (sym (after_nil (each (member_kind_of c.args.at) c.args.types.now)))

pub returns-in_err-member_kind_of : goal.returns-in_err-member_kind_of
returns-in_err-member_kind_of c =
    Becomes-exit _ _ _ _ _ c.from_residual.ensures.1 c.in_err-member_kind_of.ensures
    (λ d e. c.loop-i.invariant ∙ each-more {A = ℕ} (member_kind_of c.args.at) _ c.args.types.now c.loop-i.i _ 0 (omega arith) refl ∙ bind_stop _ _ _ e)

pub loop-i-preserved : goal.loop-i-preserved
loop-i-preserved c =
    c.loop-i.invariant ∙ each-more {A = ℕ} (member_kind_of c.args.at) _ c.args.types.now c.loop-i.i _ 0 (omega arith) refl ∙ bind_is _ _ _ c.in_ok-member_kind_of.ensures
    ∙ ap (λ l. after l (each (member_kind_of c.args.at) (drop (c.loop-i.i + 1) c.args.types.now))) (sym c.in_ok-push.ensures.items)

pub returns : goal.returns
returns c = c.loop-i.invariant ∙ each-end {A = ℕ} (member_kind_of c.args.at) _ c.args.types.now c.loop-i.i (omega arith)
