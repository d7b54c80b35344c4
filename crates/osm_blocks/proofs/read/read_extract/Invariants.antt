use Rattle.std.proofs.Common.{◌-◌}
use Rattle.osm_blocks.specs.Steps.{seen, ArePlaced}
use Rattle.osm_blocks.proofs.Prefix.{Steady}
use Rattle.osm_blocks.proofs.read.read_extract.Given as goal

abbrev pub invariant-loop-end : goal.invariant-loop-end
invariant-loop-end g l =
    let state = g.H.Host.state in
    Steady (state l.fn.host) (state l.host) l.at (seen l.draft) (ArePlaced l.draft)

abbrev pub decreases-loop-end : goal.decreases-loop-end
decreases-loop-end g l = 536870912 - l.at
