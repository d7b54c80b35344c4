use Rattle.std.proofs.Common.{◌≡◌, ◌+◌, ◌<◌, ◌^◌, ◌∙◌, length, Bool, true, false, ap, inl, inr, arith}
use Rattle.std.specs.Option.{option_or}
use Rattle.wire_read.specs.Fields.{seen, content_of, inner_length}
use Rattle.pbf_blobs.specs.Messages.{field_bytes}
use Rattle.pbf_blobs.proofs.Walking.{PayloadSoFar-more, PayloadSoFar-end, PayloadSoFar-fault, or-placed, or-first, or-inside, or-few, held-few}
use Rattle.wire_read.proofs.FieldWeights.{field_holds}
use Rattle.pbf_blobs.proofs.walk.payload_fields.Goals as goal

not_both : (b : Bool) → b ≡ true → b ≡ false → ⊥
not_both b p q = cc

pub loop-field-preserved : goal.loop-field-preserved
loop-field-preserved c =
    let step = rw c.in-Ok.is at c.in-Some.ensures.steps in
    let within : c.in-Ok.field.body_at + inner_length (content_of c.in-Ok.field.body) < 2 ^ 64 = omega (arith, step.4, step.5) in
    let holds = field_holds _ _ _ step.1 in
    record {
      read = PayloadSoFar-more _ _ _ _ _ _ _ _ (seen c.in-Ok.field) c.loop-field.invariant.read step.1 step.2 step.3
          (c.or-compressed.ensures ∙ ap (option_or c.loop-field.compressed) c.compressed_number.ensures)
          (or-first _ _ _ (field_bytes 1 (seen c.in-Ok.field)) (or-placed _ _ _ c.or-raw.ensures) c.field_bytes.ensures.bytes);
      inside = or-inside _ _ _ c.or-raw.ensures (c.field_bytes.ensures.inside within) c.loop-field.invariant.inside;
      left = omega (arith, holds, c.loop-field.invariant.left);
      few = or-few _ _ _ (length c.args.blob.now) c.or-raw.ensures (held-few _ _ (length c.args.blob.now) c.field_bytes.ensures.held (omega (arith, holds, c.loop-field.invariant.left))) c.loop-field.invariant.few;
    }

pub returns-in-Err-clause-fault : goal.returns-in-Err-clause-fault
returns-in-Err-clause-fault c =
    let step = rw c.in-Err.is at c.in-Some.ensures.steps in
    PayloadSoFar-fault _ _ _ _ _ _ c.loop-field.invariant.read step.1 step.2

pub returns-clause-found : goal.returns-clause-found
returns-clause-found c =
    PayloadSoFar-end _ _ _ _ _ c.loop-field.invariant.read
    (elim c.in-None.ensures.steps.0 [ inl empty ↦ empty | inr broken ↦ absurd (not_both c.loop-field.field-iterator.broken broken c.loop-field.invariant.read.so_far.unbroken) ])
