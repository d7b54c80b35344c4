use Rattle.std.proofs.Common.{◌≡◌, ℕ, ◌-◌, ◌≤◌, ltb, length}
use Rattle.edge_info.specs.Texts.{first_place}
use Rattle.edge_info.specs.TextReading.{any_below}
use Rattle.edge_info.proofs.OrderLaws.{LateFrom}
use Rattle.edge_info.proofs.order.first_late.Given as goal

abbrev pub invariant-loop-left : goal.invariant-loop-left
invariant-loop-left l =
    (l.left ≤ length l.places)
    × ((limit : ℕ) → limit ≤ length l.names → ltb l.least limit ≡ any_below (λ j. first_place j l.names) limit l.left (length l.places - l.left))
    × LateFrom l.names (length l.places) l.left l.found

abbrev pub decreases-loop-left : goal.decreases-loop-left
decreases-loop-left l = l.left
