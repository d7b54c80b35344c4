use Rattle.std.proofs.Common.{◌≡◌, ◌∙◌, arith, length, Err}
use Rattle.osm_blocks.specs.Faults.{is_of_bytes}
use Rattle.osm_blocks.specs.Steps.{seen}
use Rattle.osm_blocks.proofs.Prefix.{Leads-next, ReadTo-fails, ReadTo-ends, where_map}
use Rattle.osm_blocks.proofs.FileAnswers.{file_answer, fault_answer}
use Rattle.osm_blocks.proofs.read.read_extract.Goals as goal

pub loop-end-preserved : goal.loop-end-preserved
loop-end-preserved g c =
    let l = c.loop-end.invariant in
    let step = rw c.in-Ok-Some.field-0-is at c.in-Ok-Some.ensures in
    let state = g.H.Host.state in
    record {
      leads = Leads-next (state c.args.host.now) (state c.loop-end.host) (state c.add_next.new.host) c.loop-end.at c.in-Ok-Some.end (seen c.loop-end.draft) (seen c.add_next.new.draft) l.leads step.ahead.0 step.moved step.frame step.bytes step.within;
      room = step.room;
      low = step.ahead.1;
      placed = step.draft l.placed;
      no_fault = step.faults ∙ l.no_fault;
    }

pub returns-in-Ok-None-clause-bytes : goal.returns-in-Ok-None-clause-bytes
returns-in-Ok-None-clause-bytes g c = λ input i p.
    let l = c.loop-end.invariant.leads in
    let step = rw c.in-Ok-None.field-0-is at c.in-Ok-None.ensures in
    let last = step.bytes input (l.frame.input ∙ i) (l.place p) in
    let stands = l.stands input i p in
    let within = stands.within in
    let past = step.within input (l.frame.input ∙ i) (l.place p) in
    let all : c.loop-end.at ≡ length input = omega arith in
    let done = rw last.1 at c.finish.ensures.end in
    ReadTo-ends input c.loop-end.at (seen c.loop-end.draft) c.finish.result stands.read last.0 all done

pub returns-in-Err-clause-bytes : goal.returns-in-Err-clause-bytes
returns-in-Err-clause-bytes g c = λ input i p.
    let l = c.loop-end.invariant.leads in
    let next = c.in-Err.ensures.bytes input (l.frame.input ∙ i) (l.place p) in
    where_map (is_of_bytes c.in-Err.fault) (λ fails. ReadTo-fails input c.loop-end.at (seen c.loop-end.draft) c.in-Err.fault (l.stands input i p).read fails) next

-- what the host tells of its input is bytes
pub returns-in-Ok-None-clause-file : goal.returns-in-Ok-None-clause-file
returns-in-Ok-None-clause-file g c = λ input i p.
    let are = (g.met.H.Host.tells_bytes c.args.host.now).input input i in
    file_answer input c.finish.result (c.content_law.ensures input are) (returns-in-Ok-None-clause-bytes g c input i p)

pub returns-in-Ok-None-clause-faulty : goal.returns-in-Ok-None-clause-faulty
returns-in-Ok-None-clause-faulty g c = λ input i p.
    let are = (g.met.H.Host.tells_bytes c.args.host.now).input input i in
    fault_answer input c.finish.result (c.refusal_law.ensures input are) (returns-in-Ok-None-clause-bytes g c input i p)

pub returns-in-Err-clause-faulty : goal.returns-in-Err-clause-faulty
returns-in-Err-clause-faulty g c = λ input i p.
    let are = (g.met.H.Host.tells_bytes c.args.host.now).input input i in
    fault_answer input (Err c.in-Err.fault) (c.refusal_law.ensures input are) (returns-in-Err-clause-bytes g c input i p)
