use Rattle.std.proofs.Common.{◌≡◌, ◌∙◌, ap, sym, refl, [], ◌∷◌}
use Rattle.std.proofs.lemmas.List.{nil_from_length}
use Rattle.osm_objects.specs.Tags.{tags_of}
use Rattle.osm_objects.specs.FirstGroups.{first_group}
use Rattle.osm_objects.specs.Seen.{table_of}
use Rattle.osm_objects.proofs.Results.{after_nil, bind_is, bind_stop}
use Rattle.osm_objects.proofs.Exits.{Answers-exit}
use Rattle.osm_objects.proofs.KeysValues.{group-pair, behind-pair, group_read-is, group_read-fault, ended-closed, ended-cut, ended-all}
use Rattle.osm_objects.proofs.groups.read_group.Goals as goal

pub loop-key-init : goal.loop-key-init
loop-key-init c = record {
  tags = rw c.clear.ensures.items (sym (after_nil (tags_of (table_of c.args.texts.now) c.args.at (first_group c.args.numbers.now))));
  behind = refl;
  kept = refl;
}

pub returns-then-key-eq0-clause-tags : goal.returns-then-key-eq0-clause-tags
returns-then-key-eq0-clause-tags c =
    let ended = ended-closed (table_of c.args.texts.now) c.args.at c.loop-key.tags.items c.loop-key.rest.now c.in-Some.behind.now c.in-Some.key.now c.in-Some.ensures.cases.0 c.if-key-eq0.true in
    group_read-is _ _ _ _ _ (c.loop-key.invariant.tags ∙ ended.0) (c.loop-key.invariant.behind ∙ ended.1)

pub returns-in_default-split_first-clause-tags : goal.returns-in_default-split_first-clause-tags
returns-in_default-split_first-clause-tags c =
    let none : c.in-Some.behind.now ≡ [] = nil_from_length _ c.in_default-split_first.ensures.cases in
    let ended = ended-cut (table_of c.args.texts.now) c.args.at c.loop-key.tags.items c.loop-key.rest.now c.in-Some.behind.now c.in-Some.key.now c.in-Some.ensures.cases.0 none c.if-key-eq0.false in
    group_read-is _ _ _ _ _ (c.loop-key.invariant.tags ∙ ended.0) (c.loop-key.invariant.behind ∙ ended.1)

pub returns-in_err-add_tag-clause-tags : goal.returns-in_err-add_tag-clause-tags
returns-in_err-add_tag-clause-tags c =
    let parts : c.loop-key.rest.now ≡ c.in-Some.key.now ∷ c.in-Some-split_first.value.now ∷ c.in-Some-split_first.behind.now =
    c.in-Some.ensures.cases.0 ∙ ap (λ l. c.in-Some.key.now ∷ l) c.in-Some-split_first.ensures.cases.0 in
    let added = rw c.loop-key.invariant.kept at c.in_err-add_tag.ensures.tags in
    Answers-exit _ _ _ _ _ c.from_residual.ensures.1 added
    (λ d e. group_read-fault _ _ _ d (c.loop-key.invariant.tags ∙ group-pair _ _ _ _ _ _ _ parts c.if-key-eq0.false ∙ bind_stop _ _ _ e))

pub loop-key-preserved : goal.loop-key-preserved
loop-key-preserved c =
    let parts : c.loop-key.rest.now ≡ c.in-Some.key.now ∷ c.in-Some-split_first.value.now ∷ c.in-Some-split_first.behind.now =
    c.in-Some.ensures.cases.0 ∙ ap (λ l. c.in-Some.key.now ∷ l) c.in-Some-split_first.ensures.cases.0 in
    let added = rw c.loop-key.invariant.kept at c.in_ok-add_tag.ensures.tags in
    record {
      tags = c.loop-key.invariant.tags ∙ group-pair _ _ _ _ _ _ _ parts c.if-key-eq0.false ∙ bind_is _ _ _ added;
      behind = c.loop-key.invariant.behind ∙ behind-pair _ _ _ _ parts c.if-key-eq0.false;
      kept = c.add_tag.ensures.table ∙ c.loop-key.invariant.kept;
    }

pub returns-clause-tags : goal.returns-clause-tags
returns-clause-tags c =
    let ended = ended-all (table_of c.args.texts.now) c.args.at c.loop-key.tags.items c.loop-key.rest.now (nil_from_length _ c.in_default.ensures.cases) in
    group_read-is _ _ _ _ _ (c.loop-key.invariant.tags ∙ ended.0) (c.loop-key.invariant.behind ∙ ended.1)
