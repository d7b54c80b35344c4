use Rattle.std.proofs.Common.{refl}
use Rattle.tile_finish.proofs.FoundPlaces.{at_found, start_found, start_none}
use Rattle.tile_finish.proofs.edge_offsets.offset_of.Goals as goal

pub returns-then-stands_at : goal.returns-then-stands_at
returns-then-stands_at c = at_found c.args.places.now c.args.starts.now c.requires c.args.place c.args.hint.now (c.if-stands_at.ensures.inside refl) (c.if-stands_at.ensures.there refl)

pub returns-then-stands_at-2 : goal.returns-then-stands_at-2
returns-then-stands_at-2 c = at_found c.args.places.now c.args.starts.now c.requires c.args.place c.saturating_add-next.result (c.if-stands_at-2.ensures.inside refl) (c.if-stands_at-2.ensures.there refl)

pub returns-in-Ok : goal.returns-in-Ok
returns-in-Ok c = start_found c.args.places.now c.args.starts.now c.requires c.args.place c.in-Ok.i c.binary_search.result c.binary_search.ensures.position c.in-Ok.is

pub returns-in-Err : goal.returns-in-Err
returns-in-Err c = start_none c.args.places.now c.args.starts.now c.requires c.args.place c.in-Err.field-0 c.binary_search.result c.binary_search.ensures.position c.in-Err.is
