use Rattle.std.proofs.Common.{refl}
use Rattle.std.specs.Fmt.{digits}
use Rattle.mjolnir_cli.proofs.failure.failure_lines.Goals as goal

pub returns-clause-words : goal.returns-clause-words
unfolding digits
returns-clause-words c = refl

pub returns-clause-read : goal.returns-clause-read
unfolding digits
returns-clause-read c = refl

pub returns-clause-put : goal.returns-clause-put
unfolding digits
returns-clause-put c = refl

pub returns-clause-extract : goal.returns-clause-extract
unfolding digits
returns-clause-extract c = refl

pub returns-clause-not_built : goal.returns-clause-not_built
unfolding digits
returns-clause-not_built c = refl

pub returns-clause-pieces : goal.returns-clause-pieces
unfolding digits
returns-clause-pieces c = refl

pub returns-clause-edge_too_long : goal.returns-clause-edge_too_long
unfolding digits
returns-clause-edge_too_long c = refl

pub returns-clause-too_many_edges : goal.returns-clause-too_many_edges
unfolding digits
returns-clause-too_many_edges c = refl

pub returns-clause-tile_full : goal.returns-clause-tile_full
unfolding digits
returns-clause-tile_full c = refl

pub returns-clause-section : goal.returns-clause-section
unfolding digits
returns-clause-section c = refl

pub returns-clause-memory : goal.returns-clause-memory
unfolding digits
returns-clause-memory c = refl
