use Rattle.std.proofs.Common.{subst, arith}
use Rattle.section_grammar.specs.Answers.{Gives}
use Rattle.tile_bytes.proofs.Answered.{is_found, is_first_fault}
use Rattle.tile_bytes.proofs.read.read_tile.Goals as goal

pub returns-clause-found : goal.returns-clause-found
returns-clause-found c = is_found c.args.bytes.now c.read_whole.result (λ tile e. c.tile_law.ensures.found c.args.bytes.now tile (λ i. omega (arith, c.type_inv.bytes i)) e) c.read_whole.ensures

pub returns-clause-only : goal.returns-clause-only
returns-clause-only c = λ tile s. subst (λ f. Gives (λ t. t) c.read_whole.result f) (c.tile_law.ensures.spelled c.args.bytes.now tile s) c.read_whole.ensures

pub returns-clause-bad : goal.returns-clause-bad
returns-clause-bad c = is_first_fault c.args.bytes.now c.read_whole.result (λ failure e. c.checks_law.ensures.only c.args.bytes.now failure (λ i. omega (arith, c.type_inv.bytes i)) e) c.read_whole.ensures

pub returns-clause-first : goal.returns-clause-first
returns-clause-first c = λ check at first. subst (λ f. Gives (λ t. t) c.read_whole.result f) (c.checks_law.ensures.first c.args.bytes.now check at (λ i. omega (arith, c.type_inv.bytes i)) first) c.read_whole.ensures
