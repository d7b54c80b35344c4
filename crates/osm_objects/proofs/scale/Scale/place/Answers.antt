use Rattle.std.proofs.Common.{rules}
use Rattle.osm_objects.proofs.Places.{placed_at, lat_outside, lon_outside}
use Rattle.osm_objects.proofs.scale.Scale.place.Goals as goal

pub returns-in_default-clause-misplaced : goal.returns-in_default-clause-misplaced
returns-in_default-clause-misplaced c = lat_outside c.args.self c.args.lat c.args.lon (search rules)

pub returns-in_default-units-clause-misplaced : goal.returns-in_default-units-clause-misplaced
returns-in_default-units-clause-misplaced c = lon_outside c.args.self c.args.lat c.args.lon (search rules) (search rules)

pub returns-clause-placed : goal.returns-clause-placed
returns-clause-placed c =
    placed_at c.args.self c.args.lat c.args.lon _ _ (search rules) (search rules) (search rules) (search rules)
