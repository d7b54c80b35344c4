use Rattle.work_tile.specs.Places.{tile_number}
use Rattle.enhancer.proofs.Places.{place_is}
use Rattle.enhancer.proofs.held.place_of.Goals as goal

pub returns : goal.returns
returns c = place_is c.args.places.now (tile_number c.args.level c.args.tile) c.place.result c.requires c.place.ensures.some c.place.ensures.none
