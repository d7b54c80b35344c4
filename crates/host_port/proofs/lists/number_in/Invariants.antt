-- The files before this one have other paths: the search goes on with those that are left.
use Rattle.std.proofs.Common.{◌≡◌, ◌+◌, drop}
use Rattle.std.specs.Option.{option_map}
use Rattle.host_port.specs.HostFiles.{number_of}
use Rattle.host_port.proofs.lists.number_in.Given as goal

abbrev pub invariant-loop-number : goal.invariant-loop-number
invariant-loop-number l = number_of l.path l.files ≡ option_map (λ k. k + l.number) (number_of l.path (drop l.number l.files))
