use Rattle.mjolnir_cli.proofs.Ends.{if_paths}
use Rattle.mjolnir_cli.proofs.top.run.Goals as goal

pub returns-in-Build-clause-paths : goal.returns-in-Build-clause-paths
returns-in-Build-clause-paths g c = if_paths c.args.command.now c.in-Build.options c.tiles_to_put.result c.in-Build.is (rw c.as_str-in-Build-2.ensures.value at c.tiles_to_put.ensures.paths)
