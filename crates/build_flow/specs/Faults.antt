-- What the faults of the stages are to a build.

use Rattle.road_pieces.specs.declared.faults.CutFault.{CutFault}
use Rattle.road_pieces.specs.declared.faults.CutFault.TheVariants as cut_faults
use Rattle.edge_builder.specs.declared.faults.BaseFault.{BaseFault}
use Rattle.edge_builder.specs.declared.faults.BaseFault.TheVariants as base_faults
use Rattle.tile_numbers.specs.declared.room.TileFull.{TileFull}
use Rattle.tile_bytes.specs.declared.write.WriteFault.{WriteFault}
use Rattle.tile_bytes.specs.declared.write.WriteFault.TheVariants as write_faults
use Rattle.work_tile.specs.WorkRows.{WorkRows}
use Rattle.build_flow.specs.declared.faults.LimitFault.TheVariants as limits
use Rattle.build_flow.specs.declared.faults.FlowFault.{FlowFault}
use Rattle.build_flow.specs.declared.faults.FlowFault.TheVariants.{Limit, OutOfMemory}

abbrev pub flow_of_cut : CutFault → FlowFault
flow_of_cut (cut_faults.TooManyPieces count) = Limit (limits.Pieces count)
flow_of_cut (cut_faults.EdgeTooLong way run piece cm) = Limit (limits.EdgeTooLong way run piece cm)
flow_of_cut cut_faults.OutOfMemory = OutOfMemory

abbrev pub flow_of_base : BaseFault → FlowFault
flow_of_base (base_faults.TooManyEdges node count) = Limit (limits.TooManyEdges node count)
flow_of_base base_faults.OutOfMemory = OutOfMemory

abbrev pub flow_of_full : TileFull → FlowFault
flow_of_full full = Limit (limits.TileFull full.level full.tile full.what full.count)

-- .. of a tile with these rows
abbrev pub flow_of_write : WorkRows → WriteFault → FlowFault
flow_of_write rows (write_faults.Section count) = Limit (limits.Section rows.level rows.tile count)
flow_of_write rows write_faults.OutOfMemory = OutOfMemory
