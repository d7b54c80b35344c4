use Rattle.std.proofs.Common.{arith, ap, length, get_or, ◌∙◌}
use Rattle.edge_info.specs.InfoRows.{point_begin, name_begin}
use Rattle.edge_info.proofs.RowLaws.{row_there, within_at, entry_at_place}
use Rattle.edge_info.proofs.infos.Infos.at.Goals as goal

pub begins-point-requires : goal.begins-point-requires
begins-point-requires c = row_there _ _ _ _ _ _ c.self.view_is c.as_slice-rows.ensures.value c.requires

pub row_at-row-requires : goal.row_at-row-requires
row_at-row-requires c = row_there _ _ _ _ _ _ c.self.view_is c.as_slice-rows.ensures.value c.requires

pub part-requires-clause-rise : goal.part-requires-clause-rise
part-requires-clause-rise c = (within_at _ c.self.inside.points.items c.self.inside.names.items c.self.inside.rows.items c.args.i c.row_at-row.result c.begins-point.result.0 c.begins-point.result.1 c.self.view_is c.self.invariant c.requires (c.row_at-row.ensures ∙ ap (λ r. get_or r c.args.i c.row_at-row.result) c.as_slice-rows.ensures.value) (c.begins-point.ensures.points ∙ ap (λ r. point_begin 0 r c.args.i) c.as_slice-rows.ensures.value) (c.begins-point.ensures.names ∙ ap (λ r. name_begin 0 r c.args.i) c.as_slice-rows.ensures.value)).points_rise

pub part-requires-clause-inside : goal.part-requires-clause-inside
part-requires-clause-inside c = let w = (within_at _ c.self.inside.points.items c.self.inside.names.items c.self.inside.rows.items c.args.i c.row_at-row.result c.begins-point.result.0 c.begins-point.result.1 c.self.view_is c.self.invariant c.requires (c.row_at-row.ensures ∙ ap (λ r. get_or r c.args.i c.row_at-row.result) c.as_slice-rows.ensures.value) (c.begins-point.ensures.points ∙ ap (λ r. point_begin 0 r c.args.i) c.as_slice-rows.ensures.value) (c.begins-point.ensures.names ∙ ap (λ r. name_begin 0 r c.args.i) c.as_slice-rows.ensures.value)).points_inside in omega (arith, w, ap length c.deref.ensures.value)

pub part-requires-2-clause-rise : goal.part-requires-2-clause-rise
part-requires-2-clause-rise c = (within_at _ c.self.inside.points.items c.self.inside.names.items c.self.inside.rows.items c.args.i c.row_at-row.result c.begins-point.result.0 c.begins-point.result.1 c.self.view_is c.self.invariant c.requires (c.row_at-row.ensures ∙ ap (λ r. get_or r c.args.i c.row_at-row.result) c.as_slice-rows.ensures.value) (c.begins-point.ensures.points ∙ ap (λ r. point_begin 0 r c.args.i) c.as_slice-rows.ensures.value) (c.begins-point.ensures.names ∙ ap (λ r. name_begin 0 r c.args.i) c.as_slice-rows.ensures.value)).names_rise

pub part-requires-2-clause-inside : goal.part-requires-2-clause-inside
part-requires-2-clause-inside c = let w = (within_at _ c.self.inside.points.items c.self.inside.names.items c.self.inside.rows.items c.args.i c.row_at-row.result c.begins-point.result.0 c.begins-point.result.1 c.self.view_is c.self.invariant c.requires (c.row_at-row.ensures ∙ ap (λ r. get_or r c.args.i c.row_at-row.result) c.as_slice-rows.ensures.value) (c.begins-point.ensures.points ∙ ap (λ r. point_begin 0 r c.args.i) c.as_slice-rows.ensures.value) (c.begins-point.ensures.names ∙ ap (λ r. name_begin 0 r c.args.i) c.as_slice-rows.ensures.value)).names_inside in omega (arith, w, ap length c.deref-2.ensures.value)

pub returns : goal.returns
returns c = rw (c.part.ensures, c.part-2.ensures, c.deref.ensures.value, c.deref-2.ensures.value) (entry_at_place _ c.self.inside.points.items c.self.inside.names.items c.self.inside.rows.items c.args.i c.row_at-row.result c.begins-point.result.0 c.begins-point.result.1 _ c.self.view_is c.requires (c.row_at-row.ensures ∙ ap (λ r. get_or r c.args.i c.row_at-row.result) c.as_slice-rows.ensures.value) (c.begins-point.ensures.points ∙ ap (λ r. point_begin 0 r c.args.i) c.as_slice-rows.ensures.value) (c.begins-point.ensures.names ∙ ap (λ r. name_begin 0 r c.args.i) c.as_slice-rows.ensures.value))
