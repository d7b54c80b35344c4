use Rattle.std.proofs.Common.{◌∙◌, refl, arith}
use Rattle.osm_messages.specs.Seen.{seen_block}
use Rattle.osm_objects.specs.Objects.{scale_of}
use Rattle.osm_objects.specs.Seen.{table_of, seen_objects}
use Rattle.osm_objects.proofs.Results.{bind_is, bind_stop}
use Rattle.osm_objects.proofs.Exits.{Becomes-exit}
use Rattle.osm_objects.proofs.BlockLoop.{block-begun, block-no_table, block-more, block-end, spelled_at, no_texts, some_texts}
use Rattle.osm_objects.proofs.Placed.{all_placed}
use Rattle.osm_objects.proofs.Counted.{bytes_left, object-adds, block-adds}
use Rattle.osm_objects.proofs.objects.add_objects.Goals as goal

pub returns-in_default-clause-objects : goal.returns-in_default-clause-objects
returns-in_default-clause-objects c = block-no_table c.args.at (seen_block c.args.block.now) (seen_objects c.args.lists.now) _ (no_texts c.args.at c.args.block.now.texts c.in_default.is)

pub loop-i-init : goal.loop-i-init
loop-i-init c = record {
  going = record {
    same = block-begun c.args.at (seen_block c.args.block.now) (table_of c.in_ok-texts.texts) (seen_objects c.args.lists.now)
        (some_texts c.args.at c.args.block.now.texts c.in-Some.table c.deref.result.now (table_of c.in_ok-texts.texts) c.in-Some.is c.deref.ensures.value c.in_ok-texts.ensures);
    kept = refl;
  };
  room = c.requires.room;
}

pub add_object-requires-clause-numbers : goal.add_object-requires-clause-numbers
add_object-requires-clause-numbers c = spelled_at c.args.block.now.objects.items c.loop-i.i c.index.result.now c.requires.spelled (omega arith) c.index.ensures

pub add_object-requires-clause-room : goal.add_object-requires-clause-room
add_object-requires-clause-room c =
    omega (arith, c.loop-i.invariant.room, bytes_left c.args.block.now.objects.items c.loop-i.i c.index.result.now (omega arith) c.index.ensures)

pub returns-in_err-add_object-clause-objects : goal.returns-in_err-add_object-clause-objects
returns-in_err-add_object-clause-objects c =
    let added = rw (c.loop-i.invariant.going.kept, c.block_scale-scale.ensures) at c.in_err-add_object.ensures.objects in
    Becomes-exit _ _ _ _ _ c.from_residual-in_err-add_object.ensures.1 added
    (λ d e. c.loop-i.invariant.going.same
    ∙ block-more (table_of c.in_ok-texts.texts) (scale_of (seen_block c.args.block.now)) (seen_objects c.loop-i.lists) c.args.block.now.objects.items c.loop-i.i c.index.result.now (omega arith) c.index.ensures
    ∙ bind_stop _ _ _ e)

pub loop-i-preserved : goal.loop-i-preserved
loop-i-preserved c =
    let added = rw (c.loop-i.invariant.going.kept, c.block_scale-scale.ensures) at c.in_ok-add_object.ensures.objects in
    record {
      going = record {
        same = c.loop-i.invariant.going.same
            ∙ block-more (table_of c.in_ok-texts.texts) (scale_of (seen_block c.args.block.now)) (seen_objects c.loop-i.lists) c.args.block.now.objects.items c.loop-i.i c.index.result.now (omega arith) c.index.ensures
            ∙ bind_is _ _ _ added;
        kept = c.add_object.ensures.table ∙ c.loop-i.invariant.going.kept;
      };
      room = omega (arith, c.loop-i.invariant.room, object-adds _ _ _ _ _ added, bytes_left c.args.block.now.objects.items c.loop-i.i c.index.result.now (omega arith) c.index.ensures);
    }

pub returns : goal.returns
returns c =
    let objects = c.loop-i.invariant.going.same ∙ block-end _ _ _ c.args.block.now.objects.items c.loop-i.i (omega arith) in
    record {
      objects = objects;
      placed = λ before. all_placed (seen_objects c.args.lists.now) (seen_objects c.loop-i.lists) _ _ before objects;
      grown = block-adds _ _ (seen_objects c.args.lists.now) (seen_objects c.loop-i.lists) objects;
    }
