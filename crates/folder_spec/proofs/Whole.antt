-- Roads and tiles have the same walks.
use Rattle.folder_spec.specs.Tables.{SameTableWalks, graph_of}
use Rattle.folder_spec.proofs.WalksAgree.{same_roads}
use Rattle.folder_spec.proofs.TilesAgree.{same_tiles}
use Rattle.folder_spec.proofs.TableLaw.{renders}

pub same_table_walks : SameTableWalks
same_table_walks x asked numbers tile_of t table mode within a b total =
    let roads = same_roads x asked numbers mode within a b total in
    let tiles =
    same_tiles x asked numbers (graph_of x t tile_of) (renders x asked numbers tile_of t table) mode a b total in
    (λ w. tiles.0 (roads.0 w), λ w. roads.1 (tiles.1 w))
