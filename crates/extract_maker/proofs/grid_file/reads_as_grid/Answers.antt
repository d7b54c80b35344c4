-- The bytes are a file of the grid's lists, so they read as these.
use Rattle.std.proofs.Common.{◌≡◌, ℕ, List, subst, sym, arith}
use Rattle.std.proofs.lemmas.List.{get_or_default}
use Rattle.wire_read.specs.Varint.{AreBytes}
use Rattle.osm_blocks.specs.FileContent.{IsFileOf}
use Rattle.extract_maker.specs.Grid.{grid}
use Rattle.extract_maker.proofs.GridReads.{grid_file_of}
use Rattle.extract_maker.proofs.grid_file.reads_as_grid.Goals as goal

pub returns : goal.returns
returns c = λ e.
    (c.content_law.ensures c.args.file.now (λ i d within. let e = get_or_default c.args.file.now i d 0 within in omega (arith, e, c.type_inv.file i)) (grid c.args.side c.args.seed)).1
    (subst (λ (bytes : List ℕ). IsFileOf bytes (grid c.args.side c.args.seed)) (sym e) (grid_file_of c.args.side c.args.seed c.requires.most))
