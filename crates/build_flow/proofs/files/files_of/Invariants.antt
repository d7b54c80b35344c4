-- The files so far are those of the first tiles, none of which has a section that is too long.
use Rattle.build_flow.proofs.Given.{AreFilesOf}
use Rattle.build_flow.proofs.files.files_of.Given as goal

abbrev pub invariant-loop-i : goal.invariant-loop-i
invariant-loop-i l = AreFilesOf l.modes l.pieces l.tiles l.i l.files
