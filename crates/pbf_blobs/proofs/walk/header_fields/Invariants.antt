use Rattle.std.specs.Option.{option_map}
use Rattle.pbf_blobs.proofs.Walking.{HeaderSoFar}
use Rattle.pbf_blobs.proofs.walk.header_fields.Given as goal

abbrev pub invariant-loop-field : goal.invariant-loop-field
invariant-loop-field l = HeaderSoFar l.header l.at l.field-iterator (option_map (λ bytes. (bytes.0, bytes.1.now)) l.kind) l.size
