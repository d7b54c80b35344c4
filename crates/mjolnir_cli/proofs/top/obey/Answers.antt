-- A command ends by what its run, its delivery and the line of its failure promise.
use Rattle.mjolnir_cli.proofs.HowItEnds.{delivered_end, failed_end}
use Rattle.mjolnir_cli.proofs.top.obey.Goals as goal

pub returns-in-Ok-clause-end : goal.returns-in-Ok-clause-end
returns-in-Ok-clause-end g c =
    delivered_end c.one_end.ensures c.built_walks.ensures c.args.command.now c.in-Ok.answer c.deliver.result (g.H.Host.state c.args.host.now) (g.H.Host.state c.run.new.host) (g.H.Host.state c.deliver.new.host)
    (record {
      is_answer = c.in-Ok.ensures.answered;
      paths_are = c.in-Ok.ensures.paths;
      whole = c.in-Ok.ensures.whole;
      others = c.in-Ok.ensures.frame;
      reads = c.in-Ok.ensures.faults;
    })
    (record {
      statuses = c.deliver.ensures.statuses;
      done = c.deliver.ensures.done;
      said = c.deliver.ensures.said;
      put = c.deliver.ensures.put;
      put_only = c.deliver.ensures.put_only;
      put_line = c.deliver.ensures.put_line;
      put_front = c.deliver.ensures.put_front;
      memory = c.deliver.ensures.memory;
      memory_front = c.deliver.ensures.memory_front;
      say = c.deliver.ensures.say;
      say_only = c.deliver.ensures.say_only;
      say_lost = c.deliver.ensures.say_lost;
      say_done = c.deliver.ensures.say_done;
      say_text = c.deliver.ensures.say_text;
      place = c.deliver.ensures.place;
      reads = c.deliver.ensures.reads;
      none = c.deliver.ensures.none;
    })
    (λ willing. c.deliver.ensures.willing_puts (c.in-Ok.ensures.frame.willing willing)) (λ willing. c.deliver.ensures.willing_says (c.in-Ok.ensures.frame.willing willing))

pub returns-in-Err-clause-end : goal.returns-in-Err-clause-end
returns-in-Err-clause-end g c =
    failed_end c.one_end.ensures c.args.command.now c.in-Err.failure c.say_failure.result (g.H.Host.state c.args.host.now) (g.H.Host.state c.run.new.host) (g.H.Host.state c.say_failure.new.host)
    (record {
      refused = c.in-Err.ensures.refused;
      met = c.in-Err.ensures.met;
      others = c.in-Err.ensures.frame;
      reads = c.in-Err.ensures.faults;
    })
    (record { statuses = c.say_failure.ensures.status; line = c.say_failure.ensures.line; memory = c.say_failure.ensures.memory; files = c.say_failure.ensures.frame.files; put_paths = c.say_failure.ensures.frame.puts; reads = c.say_failure.ensures.frame.read_faults; puts = c.say_failure.ensures.frame.put_faults })
    c.in-Err.ensures.cause (λ willing. c.say_failure.ensures.willing (c.in-Err.ensures.frame.willing willing))
