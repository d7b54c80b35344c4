-- The records with a GraphId are those of the graph.
use Rattle.std.proofs.Common.{List, refl, sym, ap}
use Rattle.std.specs.Prelude.{All}
use Rattle.tile_bytes.specs.declared.tile.Tile.{Tile}
use Rattle.tile_bytes.specs.Tiles.{PassesChecks}
use Rattle.tile_graph.specs.Tiles.{node_under}
use Rattle.tile_walks.specs.FileTiles.{fields_of_tile}
use Rattle.tile_walks.specs.GraphLaws.{NodesAreOfGraph, EdgesAreOfGraph}
use Rattle.tile_walks.proofs.GraphRecords.{NodeAt, node_in, node_of}
use Rattle.tile_walks.proofs.GraphLinks.{EdgeBack, edge_somewhere, edge_back}

pub nodes_law : (tiles : List Tile) → NodesAreOfGraph tiles
nodes_law tiles = record {
  to = λ id r one.
      (node_under (fields_of_tile one.tile) one.place r, node_in tiles one.tile one.place r one.there one.at, record { id_is = one.named; osm_is = refl; access_is = refl });
  back = λ n there.
      let a : NodeAt tiles n = node_of tiles n there in (
        a.node,
        record { tile = a.tile; there = a.there; place = a.place; at = a.at; named = ap (λ n. n.id) a.is },
        record { id_is = refl; osm_is = ap (λ n. n.osm) (sym a.is); access_is = ap (λ n. n.access) (sym a.is) },
      );
}

pub edges_law : (tiles : List Tile) → All PassesChecks tiles → EdgesAreOfGraph tiles
edges_law tiles all = record {
  to = λ id e one. let (n, own) = edge_somewhere tiles all id e one in (n, own.there, own.own);
  back = λ n e there own. let b : EdgeBack tiles n e = edge_back tiles all n e there own in (b.edge, b.one, b.is);
}
