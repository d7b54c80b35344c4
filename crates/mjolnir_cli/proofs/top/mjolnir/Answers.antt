-- The end of a call is that of the command, or the line of a failure.
use Rattle.std.proofs.Common.{sym, map, ◌∙◌}
use Rattle.std.specs.String.{string_bytes}
use Rattle.mjolnir_cli.specs.Commands.{command_asked}
use Rattle.mjolnir_cli.proofs.HowItEnds.{wordless_end, memoryless_end, asked_end}
use Rattle.mjolnir_cli.proofs.GoodValues.{good_values}
use Rattle.mjolnir_cli.proofs.top.mjolnir.Goals as goal

pub obey-requires : goal.obey-requires
obey-requires g c =
    good_values c.modes_are_known.ensures.some c.modes_are_known.ensures.known (map string_bytes c.args.words.now) c.in-Ok-Some.command
    (sym (sym c.in-Ok-Some.field-0-is ∙ c.in-Ok-Some.ensures))

pub returns-in-Ok-Some-clause-ends : goal.returns-in-Ok-Some-clause-ends
returns-in-Ok-Some-clause-ends g c =
    (asked_end c.in-Ok-Some.command _ c.obey.result (g.H.Host.state c.args.host.now) (g.H.Host.state c.obey.new.host) (sym c.in-Ok-Some.field-0-is ∙ c.in-Ok-Some.ensures) c.obey.ensures.end).ends

pub returns-in-Ok-None-clause-ends : goal.returns-in-Ok-None-clause-ends
returns-in-Ok-None-clause-ends g c =
    (wordless_end _ c.say_failure.result (g.H.Host.state c.args.host.now) (g.H.Host.state c.say_failure.new.host) (sym c.in-Ok-None.ensures ∙ c.in-Ok-None.field-0-is)
    (record { statuses = c.say_failure.ensures.status; line = c.say_failure.ensures.line; memory = c.say_failure.ensures.memory; files = c.say_failure.ensures.frame.files; put_paths = c.say_failure.ensures.frame.puts; reads = c.say_failure.ensures.frame.read_faults; puts = c.say_failure.ensures.frame.put_faults }) c.say_failure.ensures.willing).ends

pub returns-in-Err-clause-ends : goal.returns-in-Err-clause-ends
returns-in-Err-clause-ends g c =
    (memoryless_end (command_asked (map string_bytes c.args.words.now)) c.say_failure-in-Err.result (g.H.Host.state c.args.host.now) (g.H.Host.state c.say_failure-in-Err.new.host) (record { statuses = c.say_failure-in-Err.ensures.status; line = c.say_failure-in-Err.ensures.line; memory = c.say_failure-in-Err.ensures.memory; files = c.say_failure-in-Err.ensures.frame.files; put_paths = c.say_failure-in-Err.ensures.frame.puts; reads = c.say_failure-in-Err.ensures.frame.read_faults; puts = c.say_failure-in-Err.ensures.frame.put_faults }) c.say_failure-in-Err.ensures.willing).ends

pub returns-in-Ok-Some-clause-causes : goal.returns-in-Ok-Some-clause-causes
returns-in-Ok-Some-clause-causes g c =
    (asked_end c.in-Ok-Some.command _ c.obey.result (g.H.Host.state c.args.host.now) (g.H.Host.state c.obey.new.host) (sym c.in-Ok-Some.field-0-is ∙ c.in-Ok-Some.ensures) c.obey.ensures.end).causes

pub returns-in-Ok-None-clause-causes : goal.returns-in-Ok-None-clause-causes
returns-in-Ok-None-clause-causes g c =
    (wordless_end _ c.say_failure.result (g.H.Host.state c.args.host.now) (g.H.Host.state c.say_failure.new.host) (sym c.in-Ok-None.ensures ∙ c.in-Ok-None.field-0-is)
    (record { statuses = c.say_failure.ensures.status; line = c.say_failure.ensures.line; memory = c.say_failure.ensures.memory; files = c.say_failure.ensures.frame.files; put_paths = c.say_failure.ensures.frame.puts; reads = c.say_failure.ensures.frame.read_faults; puts = c.say_failure.ensures.frame.put_faults }) c.say_failure.ensures.willing).causes

pub returns-in-Err-clause-causes : goal.returns-in-Err-clause-causes
returns-in-Err-clause-causes g c =
    (memoryless_end (command_asked (map string_bytes c.args.words.now)) c.say_failure-in-Err.result (g.H.Host.state c.args.host.now) (g.H.Host.state c.say_failure-in-Err.new.host) (record { statuses = c.say_failure-in-Err.ensures.status; line = c.say_failure-in-Err.ensures.line; memory = c.say_failure-in-Err.ensures.memory; files = c.say_failure-in-Err.ensures.frame.files; put_paths = c.say_failure-in-Err.ensures.frame.puts; reads = c.say_failure-in-Err.ensures.frame.read_faults; puts = c.say_failure-in-Err.ensures.frame.put_faults }) c.say_failure-in-Err.ensures.willing).causes

pub returns-in-Ok-Some-clause-complete : goal.returns-in-Ok-Some-clause-complete
returns-in-Ok-Some-clause-complete g c =
    (asked_end c.in-Ok-Some.command _ c.obey.result (g.H.Host.state c.args.host.now) (g.H.Host.state c.obey.new.host) (sym c.in-Ok-Some.field-0-is ∙ c.in-Ok-Some.ensures) c.obey.ensures.end).complete

pub returns-in-Ok-None-clause-complete : goal.returns-in-Ok-None-clause-complete
returns-in-Ok-None-clause-complete g c =
    (wordless_end _ c.say_failure.result (g.H.Host.state c.args.host.now) (g.H.Host.state c.say_failure.new.host) (sym c.in-Ok-None.ensures ∙ c.in-Ok-None.field-0-is)
    (record { statuses = c.say_failure.ensures.status; line = c.say_failure.ensures.line; memory = c.say_failure.ensures.memory; files = c.say_failure.ensures.frame.files; put_paths = c.say_failure.ensures.frame.puts; reads = c.say_failure.ensures.frame.read_faults; puts = c.say_failure.ensures.frame.put_faults }) c.say_failure.ensures.willing).complete

pub returns-in-Err-clause-complete : goal.returns-in-Err-clause-complete
returns-in-Err-clause-complete g c =
    (memoryless_end (command_asked (map string_bytes c.args.words.now)) c.say_failure-in-Err.result (g.H.Host.state c.args.host.now) (g.H.Host.state c.say_failure-in-Err.new.host) (record { statuses = c.say_failure-in-Err.ensures.status; line = c.say_failure-in-Err.ensures.line; memory = c.say_failure-in-Err.ensures.memory; files = c.say_failure-in-Err.ensures.frame.files; put_paths = c.say_failure-in-Err.ensures.frame.puts; reads = c.say_failure-in-Err.ensures.frame.read_faults; puts = c.say_failure-in-Err.ensures.frame.put_faults }) c.say_failure-in-Err.ensures.willing).complete

pub returns-in-Ok-Some-clause-willing : goal.returns-in-Ok-Some-clause-willing
returns-in-Ok-Some-clause-willing g c =
    (asked_end c.in-Ok-Some.command _ c.obey.result (g.H.Host.state c.args.host.now) (g.H.Host.state c.obey.new.host) (sym c.in-Ok-Some.field-0-is ∙ c.in-Ok-Some.ensures) c.obey.ensures.end).willing

pub returns-in-Ok-None-clause-willing : goal.returns-in-Ok-None-clause-willing
returns-in-Ok-None-clause-willing g c =
    (wordless_end _ c.say_failure.result (g.H.Host.state c.args.host.now) (g.H.Host.state c.say_failure.new.host) (sym c.in-Ok-None.ensures ∙ c.in-Ok-None.field-0-is)
    (record { statuses = c.say_failure.ensures.status; line = c.say_failure.ensures.line; memory = c.say_failure.ensures.memory; files = c.say_failure.ensures.frame.files; put_paths = c.say_failure.ensures.frame.puts; reads = c.say_failure.ensures.frame.read_faults; puts = c.say_failure.ensures.frame.put_faults }) c.say_failure.ensures.willing).willing

pub returns-in-Err-clause-willing : goal.returns-in-Err-clause-willing
returns-in-Err-clause-willing g c =
    (memoryless_end (command_asked (map string_bytes c.args.words.now)) c.say_failure-in-Err.result (g.H.Host.state c.args.host.now) (g.H.Host.state c.say_failure-in-Err.new.host) (record { statuses = c.say_failure-in-Err.ensures.status; line = c.say_failure-in-Err.ensures.line; memory = c.say_failure-in-Err.ensures.memory; files = c.say_failure-in-Err.ensures.frame.files; put_paths = c.say_failure-in-Err.ensures.frame.puts; reads = c.say_failure-in-Err.ensures.frame.read_faults; puts = c.say_failure-in-Err.ensures.frame.put_faults }) c.say_failure-in-Err.ensures.willing).willing

pub returns-in-Ok-Some-clause-headline : goal.returns-in-Ok-Some-clause-headline
returns-in-Ok-Some-clause-headline g c =
    (asked_end c.in-Ok-Some.command _ c.obey.result (g.H.Host.state c.args.host.now) (g.H.Host.state c.obey.new.host) (sym c.in-Ok-Some.field-0-is ∙ c.in-Ok-Some.ensures) c.obey.ensures.end).headline

pub returns-in-Ok-None-clause-headline : goal.returns-in-Ok-None-clause-headline
returns-in-Ok-None-clause-headline g c =
    (wordless_end _ c.say_failure.result (g.H.Host.state c.args.host.now) (g.H.Host.state c.say_failure.new.host) (sym c.in-Ok-None.ensures ∙ c.in-Ok-None.field-0-is)
    (record { statuses = c.say_failure.ensures.status; line = c.say_failure.ensures.line; memory = c.say_failure.ensures.memory; files = c.say_failure.ensures.frame.files; put_paths = c.say_failure.ensures.frame.puts; reads = c.say_failure.ensures.frame.read_faults; puts = c.say_failure.ensures.frame.put_faults }) c.say_failure.ensures.willing).headline

pub returns-in-Err-clause-headline : goal.returns-in-Err-clause-headline
returns-in-Err-clause-headline g c =
    (memoryless_end (command_asked (map string_bytes c.args.words.now)) c.say_failure-in-Err.result (g.H.Host.state c.args.host.now) (g.H.Host.state c.say_failure-in-Err.new.host) (record { statuses = c.say_failure-in-Err.ensures.status; line = c.say_failure-in-Err.ensures.line; memory = c.say_failure-in-Err.ensures.memory; files = c.say_failure-in-Err.ensures.frame.files; put_paths = c.say_failure-in-Err.ensures.frame.puts; reads = c.say_failure-in-Err.ensures.frame.read_faults; puts = c.say_failure-in-Err.ensures.frame.put_faults }) c.say_failure-in-Err.ensures.willing).headline
