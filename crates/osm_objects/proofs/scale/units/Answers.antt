use Rattle.std.proofs.Common.{◌≡◌, pos, FitsSigned, to_z, of_z, w64, ap, ◌∙◌}
use Rattle.std.specs.Int.{w128, int_div_euclid}
use Rattle.std.proofs.lemmas.Int.{to_z-of_z}
use Rattle.osm_objects.specs.Scales.{units_of}
use Rattle.osm_objects.proofs.scale.units.Goals as goal

pub returns : goal.returns
returns c =
    let limit : to_z w64 (of_z w64 c.args.limit) ≡ c.args.limit = to_z-of_z w64 c.args.limit c.ranges.limit in
    let nano = rw (to_z-of_z w64 c.args.offset c.ranges.offset, to_z-of_z w64 c.args.granularity c.ranges.granularity, to_z-of_z w64 c.args.number c.ranges.number) at c.nanodegrees.ensures in
    let nano_fits : FitsSigned w128 c.nanodegrees.result = record { sfits = c.nanodegrees.type_inv } in
    let units_fit : FitsSigned w128 c.rounded_down.result = record { sfits = c.rounded_down.type_inv } in
    let units : to_z w128 (of_z w128 c.rounded_down.result) ≡ units_of c.args.granularity c.args.offset c.args.number =
    to_z-of_z w128 c.rounded_down.result units_fit ∙ c.rounded_down.ensures ∙ ap (λ z. int_div_euclid z (pos 100)) (to_z-of_z w128 c.nanodegrees.result nano_fits ∙ nano) in
    rw (limit, units) at c.wide_within.ensures
