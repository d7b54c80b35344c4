use Rattle.std.proofs.Common.{◌≡◌, ◌<◌, ◌^◌, ◌-◌, ◌++◌}
use Rattle.extract_maker.specs.GridFile.{turn_file}
use Rattle.extract_maker.proofs.grid_file.push_turns.Given as goal

abbrev pub invariant-loop-place : goal.invariant-loop-place
invariant-loop-place l = record {
  written : l.file.items ++ turn_file l.side l.place (l.side - l.place) l.state ≡ l.fn.file.items ++ turn_file l.side 0 l.side l.seed;
  small : l.state < 2 ^ 31;
}
