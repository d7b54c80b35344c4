use Rattle.std.proofs.Common.{[], get_or, arith}
use Rattle.tile_bytes.specs.declared.sequences.Sequence.{Sequence}
use Rattle.tile_bytes.specs.Sequences.{sequence_bytes}
use Rattle.tile_bytes.proofs.Pieces.{spelled_behind, sequence_is}
use Rattle.tile_bytes.proofs.write.push_sequences.Goals as goal

nothing : Sequence
nothing = record { edges = []; modes = 0 }

pub loop-i-preserved : goal.loop-i-preserved
loop-i-preserved c =
    let s : Sequence = record { edges = c.edges.result.now; modes = c.modes.result } in
    rw c.in_ok-push_sequence.ensures (spelled_behind sequence_bytes c.args.sequences.now c.loop-i.i s nothing c.args.out.now.items c.loop-i.out.items (omega (arith, c.len-i-end.ensures))
    (sequence_is c.edges.result.now c.modes.result (get_or c.args.sequences.now c.loop-i.i nothing) (c.edges.ensures nothing) (c.modes.ensures nothing)) c.loop-i.invariant)
