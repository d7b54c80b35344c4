use Rattle.tile_table.proofs.table.TileTable.made.Given as goal

abbrev pub ghost-of : goal.ghost-of
ghost-of g a = g.aim
