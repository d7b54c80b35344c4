use Rattle.std.proofs.Common.{rules, ◌∙◌, arith, ap, sym, refl, ◌+◌, pos, get_or, w64, FitsSigned}
use Rattle.std.proofs.lemmas.Int.{to_z-of_z}
use Rattle.osm_model.specs.declared.relations.MemberKind.TheVariants.{Node}
use Rattle.osm_objects.specs.Relations.{members_of}
use Rattle.osm_objects.specs.Seen.{table_of}
use Rattle.osm_objects.specs.Answers.{after}
use Rattle.osm_objects.proofs.Results.{after_nil, bind_is, bind_stop}
use Rattle.osm_objects.proofs.Exits.{Becomes-exit}
use Rattle.osm_objects.proofs.Loops.{members_left, members-more, members-end}
use Rattle.osm_objects.proofs.relations.read_members.Goals as goal

pub loop-i-init : goal.loop-i-init
loop-i-init c = record {
  same = rw c.clear.ensures.items (sym (after_nil (members_of (table_of c.args.texts.now) c.args.at c.args.roles.now c.args.ids.now c.args.kinds.now)));
  kept = refl;
}

pub returns-in_err-role-clause-members : goal.returns-in_err-role-clause-members
returns-in_err-role-clause-members c =
    let text = rw c.loop-i.invariant.kept at c.in_err-role.ensures.answer in
    Becomes-exit _ _ _ _ _ c.from_residual.ensures.1 text
    (λ d e. c.loop-i.invariant.same ∙ members-more _ _ _ c.args.roles.now c.args.ids.now c.args.kinds.now c.loop-i.i _ _ _ (pos 0) Node (omega arith) (omega (arith, c.requires.ids)) (omega (arith, c.requires.kinds)) refl refl refl ∙ bind_stop _ _ _ e)

pub returns-in_err-role-clause-table : goal.returns-in_err-role-clause-table
returns-in_err-role-clause-table c = c.text.ensures.table ∙ c.loop-i.invariant.kept

pub loop-i-preserved : goal.loop-i-preserved
loop-i-preserved c =
    let id : FitsSigned w64 (get_or c.args.ids.now c.loop-i.i (pos 0)) = search rules in
    let text = rw c.loop-i.invariant.kept at c.in_ok-role.ensures.answer in
    record {
      same = c.loop-i.invariant.same
          ∙ members-more _ _ _ c.args.roles.now c.args.ids.now c.args.kinds.now c.loop-i.i _ _ _ (pos 0) Node (omega arith) (omega (arith, c.requires.ids)) (omega (arith, c.requires.kinds)) refl (to_z-of_z w64 _ id) refl
          ∙ bind_is _ _ _ text
          ∙ ap (λ l. after l (members_left (table_of c.args.texts.now) c.args.at c.args.roles.now c.args.ids.now c.args.kinds.now (c.loop-i.i + 1))) (sym c.in_ok-push.ensures.items);
      kept = c.text.ensures.table ∙ c.loop-i.invariant.kept;
    }

pub returns-clause-members : goal.returns-clause-members
returns-clause-members c =
    c.loop-i.invariant.same ∙ members-end _ _ _ c.args.roles.now c.args.ids.now c.args.kinds.now c.loop-i.i (omega arith)
