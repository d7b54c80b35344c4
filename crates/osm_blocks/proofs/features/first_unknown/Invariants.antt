-- Each feature so far is known.
use Rattle.std.proofs.Common.{◌≡◌, map, drop}
use Rattle.osm_blocks.specs.Features.{first_unknown}
use Rattle.osm_blocks.proofs.features.first_unknown.Given as goal

abbrev pub invariant-loop-feature : goal.invariant-loop-feature
invariant-loop-feature l =
    first_unknown (map (λ feature. (feature.0, feature.1.now)) l.features)
    ≡ first_unknown (map (λ feature. (feature.0, feature.1.now)) (drop l.feature-index l.features))
