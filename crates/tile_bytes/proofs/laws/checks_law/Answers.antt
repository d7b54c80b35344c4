use Rattle.std.proofs.Common.{◌≡◌, ℕ, List, Ok, Err, refl}
use Rattle.section_grammar.specs.Answers.{FailedCheck}
use Rattle.section_grammar.specs.WordBytes.{IsByteList}
use Rattle.section_grammar.proofs.Judges.{first_is, first_said}
use Rattle.tile_bytes.specs.TileReading.{tile_at}
use Rattle.tile_bytes.specs.TileChecks.{TileCheck, check_number, CheckFails, NoCheckFails}
use Rattle.tile_bytes.specs.Tiles.{TileSpelled}
use Rattle.tile_bytes.specs.declared.tile.Tile.{Tile}
use Rattle.tile_bytes.proofs.CheckNumbers.{one_check, numbers_within}
use Rattle.tile_bytes.proofs.NodeEdgeLaws.{nodes_reader, edges_reader}
use Rattle.tile_bytes.proofs.WholeChecks.{tile_judges}
use Rattle.tile_bytes.proofs.laws.checks_law.Goals as goal

pub returns-clause-first : goal.returns-clause-first
returns-clause-first c = λ bytes check at fits first.
    let nodes = nodes_reader c.node_law.ensures.back c.node_law.ensures.fits c.node_law.ensures.spelled c.node_law.ensures.whole in
    let edges = edges_reader c.edge_law.ensures.back c.edge_law.ensures.fits c.edge_law.ensures.spelled c.edge_law.ensures.whole in
    let judges = tile_judges bytes fits nodes edges c.entries_law.ensures.found c.entries_law.ensures.spelled c.entries_law.ensures.fails c.entries_law.ensures.first c.texts_law.ensures.fails c.texts_law.ensures.first c.padding_law.ensures.fails c.padding_law.ensures.first in
    first_said check_number (CheckFails bytes) 1 17 (tile_at bytes) numbers_within one_check judges check at first

pub returns-clause-only : goal.returns-clause-only
returns-clause-only c = λ bytes failure fits e.
    let nodes = nodes_reader c.node_law.ensures.back c.node_law.ensures.fits c.node_law.ensures.spelled c.node_law.ensures.whole in
    let edges = edges_reader c.edge_law.ensures.back c.edge_law.ensures.fits c.edge_law.ensures.spelled c.edge_law.ensures.whole in
    let judges = tile_judges bytes fits nodes edges c.entries_law.ensures.found c.entries_law.ensures.spelled c.entries_law.ensures.fails c.entries_law.ensures.first c.texts_law.ensures.fails c.texts_law.ensures.first c.padding_law.ensures.fails c.padding_law.ensures.first in
    first_is check_number (CheckFails bytes) 1 17 (tile_at bytes) numbers_within judges failure e

pub returns-clause-spelled : goal.returns-clause-spelled
returns-clause-spelled c = λ bytes tile fits is check at f.
    let nodes = nodes_reader c.node_law.ensures.back c.node_law.ensures.fits c.node_law.ensures.spelled c.node_law.ensures.whole in
    let edges = edges_reader c.edge_law.ensures.back c.edge_law.ensures.fits c.edge_law.ensures.spelled c.edge_law.ensures.whole in
    let judges = tile_judges bytes fits nodes edges c.entries_law.ensures.found c.entries_law.ensures.spelled c.entries_law.ensures.fails c.entries_law.ensures.first c.texts_law.ensures.fails c.texts_law.ensures.first c.padding_law.ensures.fails c.padding_law.ensures.first in
    judges.passes tile (c.tile_law.ensures.spelled bytes tile is) check at (numbers_within check).0 (numbers_within check).1 f

pub returns-clause-spells : goal.returns-clause-spells
returns-clause-spells c = λ bytes fits none.
    let nodes = nodes_reader c.node_law.ensures.back c.node_law.ensures.fits c.node_law.ensures.spelled c.node_law.ensures.whole in
    let edges = edges_reader c.edge_law.ensures.back c.edge_law.ensures.fits c.edge_law.ensures.spelled c.edge_law.ensures.whole in
    let judges = tile_judges bytes fits nodes edges c.entries_law.ensures.found c.entries_law.ensures.spelled c.entries_law.ensures.fails c.entries_law.ensures.first c.texts_law.ensures.fails c.texts_law.ensures.first c.padding_law.ensures.fails c.padding_law.ensures.first in
    (elim (tile_at bytes) as (λ r. tile_at bytes ≡ r → (tile : Tile) × TileSpelled bytes tile) [
      | Ok tile ↦ λ e. (tile, c.tile_law.ensures.found bytes tile fits e)
      | Err d ↦ λ e. (let t = first_is check_number (CheckFails bytes) 1 17 (tile_at bytes) numbers_within judges d e in absurd (none t.0 t.1 t.2.fails_here))
    ]) refl
