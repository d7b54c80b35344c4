-- The bits of the local indexes from 8 - k on.
use Rattle.std.proofs.Common.{◌≡◌, ◌<◌, ◌-◌, ◌^◌}
use Rattle.road_walks.specs.Orders.{number_of_bits}
use Rattle.enhancer.specs.NamesInCommon.{is_named_alike}
use Rattle.enhancer.proofs.alike.bits_at.Given as goal

abbrev pub invariant-loop-k : goal.invariant-loop-k
invariant-loop-k l =
    record {
      bits : l.bits ≡ number_of_bits (is_named_alike l.pieces l.place l.node.edges) (8 - l.k) l.k;
      few : l.bits < 2 ^ l.k;
    }
