use Rattle.std.proofs.Common.{◌∙◌, ap, arith}
use Rattle.osm_messages.proofs.PackedFaults.{fault_from, fault-from, step-last, step-on, step-long, step-short, step-end}
use Rattle.osm_messages.proofs.packed.first_fault.Goals as goal
use Rattle.osm_messages.proofs.packed.first_fault.Goals.{then-bytes-i-lt128, else-bytes-i-lt128+else-going-eq-MOST_BYTES}

pub loop-i-init : goal.loop-i-init
loop-i-init c = record { few = omega arith; within = omega arith; same = fault-from c.args.at c.args.bytes.now ∙ ap (λ k. fault_from k 0 c.args.bytes.now) (omega arith) }

pub returns-then-going-eq-MOST_BYTES-clause-fault : goal.returns-then-going-eq-MOST_BYTES-clause-fault
returns-then-going-eq-MOST_BYTES-clause-fault c =
    c.loop-i.invariant.same
    ∙ step-long c.args.at c.loop-i.going c.loop-i.i c.args.bytes.now c.loop-i-test.true c.loop-i.invariant.within c.if-bytes-i-lt128.false (omega arith)

pub loop-i-preserved : goal.loop-i-preserved
loop-i-preserved c =
    elim c.if-bytes-i-lt128.branch [
      | then-bytes-i-lt128 w ↦
          rw w.going-is (record {
            few = omega arith;
            within = omega arith;
            same = c.loop-i.invariant.same ∙ step-last c.args.at c.loop-i.going c.loop-i.i c.args.bytes.now c.loop-i-test.true c.loop-i.invariant.within w.if-bytes-i-lt128.true;
          })
      | else-bytes-i-lt128+else-going-eq-MOST_BYTES w ↦
          rw w.going-is (record {
            few = omega arith;
            within = omega arith;
            same = c.loop-i.invariant.same ∙ step-on c.args.at c.loop-i.going c.loop-i.i c.args.bytes.now c.loop-i-test.true c.loop-i.invariant.within w.if-bytes-i-lt128.false (omega arith);
          })
    ]

pub returns-then-going-gt0-clause-fault : goal.returns-then-going-gt0-clause-fault
returns-then-going-gt0-clause-fault c =
    c.loop-i.invariant.same
    ∙ step-short c.args.at c.loop-i.going c.loop-i.i c.args.bytes.now (omega arith) c.loop-i.invariant.within c.if-going-gt0.true

pub returns-clause-spelled : goal.returns-clause-spelled
returns-clause-spelled c =
    c.loop-i.invariant.same ∙ step-end c.args.at c.loop-i.going c.loop-i.i c.args.bytes.now (omega arith) (omega arith)
