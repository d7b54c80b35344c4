use Rattle.std.proofs.Common.{◌≡◌, Some, false}
use Rattle.mjolnir_cli.specs.Failures.{cause_of}
use Rattle.mjolnir_cli.specs.Commands.BuildCommand.{IsBuilt, IsBuildRefused}
use Rattle.mjolnir_cli.specs.Listing.{IfOfInput}
use Rattle.mjolnir_cli.proofs.Causes.{met, counted, if_read, if_input}
use Rattle.mjolnir_cli.proofs.Building.{if_in, if_built, if_refused, for_all, for_all_err}
use Rattle.mjolnir_cli.proofs.build.tiles_of_input.Goals as goal

pub returns-in-Ok-clause-built : goal.returns-in-Ok-clause-built
returns-in-Ok-clause-built g c =
    let told = (g.H.Host.state c.args.host.now).told in
    let answer = c.tiles_of_extract.result in
    for_all answer (λ answer bytes. IsBuilt c.args.output.now c.args.modes bytes answer) (λ bytes. told.input ≡ Some bytes) (λ bytes. told.place ≡ Some 0)
    (λ bytes input place. if_built c.args.output.now c.args.modes bytes c.in-Ok.extract answer c.tiles_of_extract.ensures.files c.tiles_of_extract.ensures.silent c.tiles_of_extract.ensures.built c.tiles_of_extract.ensures.within (c.in-Ok.ensures.bytes bytes input place))

pub returns-in-Ok-clause-paths : goal.returns-in-Ok-clause-paths
returns-in-Ok-clause-paths g c = if_in c.args.output.now c.args.modes c.in-Ok.extract c.tiles_of_extract.result c.tiles_of_extract.ensures.files

pub returns-in-Ok-clause-refused : goal.returns-in-Ok-clause-refused
returns-in-Ok-clause-refused g c =
    let told = (g.H.Host.state c.args.host.now).told in
    let answer = c.tiles_of_extract.result in
    for_all_err answer (λ failure bytes. IfOfInput (cause_of failure) (IsBuildRefused c.args.modes bytes failure)) (λ bytes. told.input ≡ Some bytes) (λ bytes. told.place ≡ Some 0)
    (λ bytes input place. if_refused c.args.modes bytes c.in-Ok.extract answer c.tiles_of_extract.ensures.refused (c.in-Ok.ensures.bytes bytes input place))

pub returns-in-Err-clause-refused : goal.returns-in-Err-clause-refused
returns-in-Err-clause-refused g c = λ bytes input place.
    rw c.from.ensures (if_input (IsBuildRefused c.args.modes bytes) c.in-Err.fault (c.in-Err.ensures.bytes bytes input place))

pub returns-in-Err-clause-met : goal.returns-in-Err-clause-met
returns-in-Err-clause-met g c = rw c.from.ensures (met c.in-Err.fault)

pub returns-in-Err-clause-faults : goal.returns-in-Err-clause-faults
returns-in-Err-clause-faults g c = rw c.from.ensures (counted _ _ c.in-Err.fault c.in-Err.ensures.faults)

pub returns-in-Err-clause-cause : goal.returns-in-Err-clause-cause
returns-in-Err-clause-cause g c = λ willing. rw c.from.ensures (if_read ((g.H.Host.state c.args.host.now).told.is_open ≡ Some false) c.in-Err.fault (c.in-Err.ensures.cause willing))
