use Rattle.osm_objects.proofs.Table.{table_same}
use Rattle.osm_objects.proofs.texts.Texts.text.Goals as goal

pub returns-clause-table : goal.returns-clause-table
returns-clause-table c = table_same _ _ _ _ c.index_mut-entry.ensures.value c.text.ensures.same
