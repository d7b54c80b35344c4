-- How entries are kept: their points are one list, and their names another; a row says where those of its entry end.
use Rattle.std.specs.Prelude.{◌≡◌, ◌≤◌, ℕ, zero, suc, List, [], ◌∷◌, slice_range}
use Rattle.fixed_geo.specs.declared.points.Point.{Point}
use Rattle.edge_info.specs.declared.infos.Info.{Info}
use Rattle.edge_info.specs.declared.infos.InfoRow.{InfoRow}

-- the entry of a row, whose points and names begin at these indexes
abbrev pub info_of : List Point → List ℕ → ℕ → ℕ → InfoRow → Info
info_of points names point name row = record {
  key = row.key;
  shape = slice_range points point row.points_to;
  texts = slice_range names name row.names_to;
}

-- the entries of rows: the points and the names of the first begin at these indexes, those of each other where the one
-- before ends
abbrev pub infos_from : List Point → List ℕ → ℕ → ℕ → List InfoRow → List Info
infos_from points names point name [] = []
infos_from points names point name (row ∷ rows) =
    info_of points names point name row ∷ infos_from points names row.points_to row.names_to rows

-- the points and the names from these indexes on are those of the rows, and there are so many in all
abbrev pub RowsFill : ℕ → ℕ → ℕ → ℕ → List InfoRow → Type 0
RowsFill points names point name [] = (point ≡ points) × (name ≡ names)
RowsFill points names point name (row ∷ rows) =
    (point ≤ row.points_to) × (name ≤ row.names_to) × RowsFill points names row.points_to row.names_to rows

-- where the points of the entry with this number begin, if those of the first begin there
abbrev pub point_begin : ℕ → List InfoRow → ℕ → ℕ
point_begin point rows zero = point
point_begin point [] (suc i) = point
point_begin point (row ∷ rows) (suc i) = point_begin row.points_to rows i

-- the same of the names
abbrev pub name_begin : ℕ → List InfoRow → ℕ → ℕ
name_begin name rows zero = name
name_begin name [] (suc i) = name
name_begin name (row ∷ rows) (suc i) = name_begin row.names_to rows i
