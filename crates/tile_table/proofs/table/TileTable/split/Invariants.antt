use Rattle.tile_table.proofs.table.TileTable.split.Given as goal

abbrev pub ghosts-split_by : goal.ghosts-split_by
ghosts-split_by g a = record { number = a.at }
