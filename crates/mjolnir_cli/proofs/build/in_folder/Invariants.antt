-- The files so far are in the folder.
use Rattle.std.proofs.Common.{◌≡◌, map}
use Rattle.mjolnir_cli.specs.Commands.BuildCommand.{file_in}
use Rattle.mjolnir_cli.proofs.build.in_folder.Given as goal

abbrev pub invariant-loop-file : goal.invariant-loop-file
invariant-loop-file l = l.placed ≡ map (file_in l.output) l.yielded
