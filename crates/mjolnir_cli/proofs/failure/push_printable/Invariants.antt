-- The bytes so far and those that are left are all bytes.
use Rattle.std.proofs.Common.{◌≡◌, ◌++◌, map, drop}
use Rattle.mjolnir_cli.specs.Failures.{printable}
use Rattle.mjolnir_cli.proofs.failure.push_printable.Given as goal

abbrev pub invariant-loop-byte : goal.invariant-loop-byte
invariant-loop-byte l =
    l.line.items ++ map printable (drop l.byte-index l.text) ≡ l.fn.line.items ++ map printable l.text
