use Rattle.std.proofs.Common.{◌≡◌, ap, ◌∙◌, take, length, arith}
use Rattle.host_port.specs.Told.{Told}
use Rattle.host_port.proofs.HostFrames.{puts_then}
use Rattle.mjolnir_cli.proofs.Stored.{puts_more, puts_before, front_of, on_err, unput_by}
use Rattle.mjolnir_cli.proofs.put.put_files.Goals as goal

pub returns-in_err-put-clause-front : goal.returns-in_err-put-clause-front
returns-in_err-put-clause-front g c =
    let state = g.H.Host.state in
    let files = c.args.files.now in
    on_err c.from_residual.result (
      take c.loop-file.file-index files,
      front_of files c.loop-file.file-index c.loop-file-test.true,
      puts_before _ (state c.args.host.now).told (state c.loop-file.host).told (state c.put.new.self).told (ap (λ (t : Told). t.files) c.in_err-put.ensures.err) (ap (λ (t : Told). t.puts) c.in_err-put.ensures.err) c.loop-file.invariant.puts_all,
    )

pub loop-file-preserved : goal.loop-file-preserved
loop-file-preserved g c =
    let state = g.H.Host.state in
    let before = c.loop-file.invariant in
    let stored = rw (c.as_str.ensures.value, c.as_slice.ensures) at c.in_ok-put.ensures.ok in
    record {
      puts_all = puts_more c.args.files.now c.loop-file.file-index c.file-item.result (state c.args.host.now).told (state c.loop-file.host).told (state c.put.new.self).told c.loop-file-test.true c.file-item.is before.puts_all stored;
      frame = puts_then _ _ _ before.frame c.put.ensures.frame;
      no_fault = c.in_ok-put.ensures.faults ∙ before.no_fault;
    }

pub returns-in_err-put-clause-none : goal.returns-in_err-put-clause-none
returns-in_err-put-clause-none g c = λ none.
    let empty : length c.args.files.now ≡ 0 = ap length none in
    let inside = c.loop-file-test.true in
    absurd (omega arith)

pub returns-clause-none : goal.returns-clause-none
returns-clause-none g c = λ none.
    (unput_by c.args.files.now c.loop-file.file-index _ _ none c.loop-file.invariant.puts_all, c.loop-file.invariant.no_fault)
