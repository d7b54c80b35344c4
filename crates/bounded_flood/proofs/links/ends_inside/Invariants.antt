use Rattle.std.proofs.Common.{ℕ, ◌+◌, ◌<◌}
use Rattle.std.specs.Prelude.{slice_index_or}
use Rattle.bounded_flood.specs.declared.links.Link.{Link}
use Rattle.bounded_flood.proofs.links.ends_inside.Given as goal

abbrev pub invariant-loop-link : goal.invariant-loop-link
invariant-loop-link l = (k : ℕ) (d : Link) → k < l.link-index → (slice_index_or l.links k d).end + 1 < l.starts
