use Rattle.std.proofs.Common.{◌≡◌, ◌≤◌, length, take}
use Rattle.tile_machine.specs.Good.{IsGood}
use Rattle.tile_machine.specs.Next.{leads, accepted}
use Rattle.tile_machine.proofs.machine.Machine.run.Given as goal

abbrev pub invariant-loop-event : goal.invariant-loop-event
invariant-loop-event l =
    record {
      state : l.self ≡ leads l.fn.self (take l.event-index l.events);
      count : l.count ≡ accepted l.fn.self (take l.event-index l.events);
      few : l.count ≤ l.event-index;
      good : IsGood (length l.fn.self.workers) l.self;
    }
