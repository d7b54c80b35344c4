use Rattle.std.proofs.Common.{◌≡◌, [], length}
use Rattle.section_grammar.specs.Reads.{read_all}
use Rattle.tile_bytes.specs.Sequences.{sequence_at}
use Rattle.tile_bytes.proofs.sequence_section.sequences_in.Given as goal

abbrev pub invariant-loop-rest : goal.invariant-loop-rest
invariant-loop-rest l = read_all (sequence_at l.end) (length l.rest) l.sequences l.rest ≡ read_all (sequence_at l.end) (length l.bytes) [] l.bytes

abbrev pub decreases-loop-rest : goal.decreases-loop-rest
decreases-loop-rest l = length l.rest
