use Rattle.mjolnir_cli.proofs.Building.{if_opened}
use Rattle.mjolnir_cli.proofs.build.tiles_to_put.Goals as goal

pub returns-clause-built : goal.returns-clause-built
returns-clause-built g c =
    if_opened c.args.output.now c.args.modes c.args.input.now (g.H.Host.state c.args.host.now).told (g.H.Host.state c.open_input.new.self).told c.tiles_of_input.result c.in_ok-open_input.ensures.ok
    (g.met.H.Host.tells_input c.args.host.now) c.tiles_of_input.ensures.built
