use Rattle.std.proofs.Common.{◌+◌, ◌<◌, ◌≤◌, ◌^◌, length, IfSome}
use Rattle.std.specs.Option.{option_map}
use Rattle.pbf_blobs.proofs.Walking.{PayloadSoFar}
use Rattle.pbf_blobs.proofs.walk.payload_fields.Given as goal

abbrev pub invariant-loop-field : goal.invariant-loop-field
invariant-loop-field l = record {
  read : PayloadSoFar l.blob l.at l.field-iterator l.compressed (option_map (λ bytes. (bytes.0, bytes.1.now)) l.raw);
  inside : IfSome l.raw (λ raw. raw.0 + length raw.1.now < 2 ^ 64);
  left : length l.field-iterator.rest ≤ length l.blob;
  few : IfSome l.raw (λ raw. length raw.1.now ≤ length l.blob);
}
