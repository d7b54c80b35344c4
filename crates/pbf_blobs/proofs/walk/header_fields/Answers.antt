use Rattle.std.proofs.Common.{◌≡◌, Bool, true, false, inl, inr}
use Rattle.wire_read.specs.Fields.{seen}
use Rattle.pbf_blobs.specs.Messages.{field_bytes, field_varint}
use Rattle.pbf_blobs.proofs.Walking.{HeaderSoFar-more, HeaderSoFar-end, HeaderSoFar-fault, or-placed, or-first}
use Rattle.pbf_blobs.proofs.walk.header_fields.Goals as goal

not_both : (b : Bool) → b ≡ true → b ≡ false → ⊥
not_both b p q = cc

pub loop-field-preserved : goal.loop-field-preserved
loop-field-preserved c =
    let step = rw c.in-Ok.is at c.in-Some.ensures.steps in
    HeaderSoFar-more _ _ _ _ _ _ _ _ (seen c.in-Ok.field) c.loop-field.invariant step.1 step.2 step.3
    (or-first _ _ _ (field_bytes 1 (seen c.in-Ok.field)) (or-placed _ _ _ c.or-kind.ensures) c.field_bytes.ensures.bytes)
    (or-first _ _ _ (field_varint 3 (seen c.in-Ok.field)) c.or-size.ensures c.field_varint.ensures)

pub returns-in-Err-clause-fault : goal.returns-in-Err-clause-fault
returns-in-Err-clause-fault c =
    let step = rw c.in-Err.is at c.in-Some.ensures.steps in
    HeaderSoFar-fault _ _ _ _ _ _ c.loop-field.invariant step.1 step.2

pub returns-clause-found : goal.returns-clause-found
returns-clause-found c =
    HeaderSoFar-end _ _ _ _ _ c.loop-field.invariant
    (elim c.in-None.ensures.steps.0 [ inl empty ↦ empty | inr broken ↦ absurd (not_both c.loop-field.field-iterator.broken broken c.loop-field.invariant.so_far.unbroken) ])
