use Rattle.std.proofs.Common.{◌∙◌, arith, sym, refl}
use Rattle.std.specs.List.{zip}
use Rattle.osm_objects.specs.Tags.{tags_of}
use Rattle.osm_objects.specs.Seen.{table_of}
use Rattle.osm_objects.proofs.Results.{after_nil, bind_is, bind_stop}
use Rattle.osm_objects.proofs.Exits.{Becomes-exit}
use Rattle.osm_objects.proofs.Loops.{tags-more, tags-end}
use Rattle.osm_objects.proofs.tags.read_tags.Goals as goal

pub loop-i-init : goal.loop-i-init
loop-i-init c = record {
  same = rw c.clear.ensures.items (sym (after_nil (tags_of (table_of c.args.texts.now) c.args.at (zip c.args.keys.now c.args.values.now))));
  kept = refl;
}

pub returns-in_err-add_tag-clause-tags : goal.returns-in_err-add_tag-clause-tags
returns-in_err-add_tag-clause-tags c =
    let added = rw c.loop-i.invariant.kept at c.in_err-add_tag.ensures.tags in
    Becomes-exit _ _ _ _ _ c.from_residual.ensures.1 added
    (λ d e. c.loop-i.invariant.same ∙ tags-more _ _ _ c.args.keys.now c.args.values.now c.loop-i.i _ _ (omega arith) (omega arith) refl refl ∙ bind_stop _ _ _ e)

pub returns-in_err-add_tag-clause-table : goal.returns-in_err-add_tag-clause-table
returns-in_err-add_tag-clause-table c = c.add_tag.ensures.table ∙ c.loop-i.invariant.kept

pub loop-i-preserved : goal.loop-i-preserved
loop-i-preserved c =
    let added = rw c.loop-i.invariant.kept at c.in_ok-add_tag.ensures.tags in
    record {
      same = c.loop-i.invariant.same ∙ tags-more _ _ _ c.args.keys.now c.args.values.now c.loop-i.i _ _ (omega arith) (omega arith) refl refl ∙ bind_is _ _ _ added;
      kept = c.add_tag.ensures.table ∙ c.loop-i.invariant.kept;
    }

pub returns-clause-tags : goal.returns-clause-tags
returns-clause-tags c =
    c.loop-i.invariant.same ∙ tags-end _ _ _ c.args.keys.now c.args.values.now c.loop-i.i (omega arith)
