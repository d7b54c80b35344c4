use Rattle.osm_model.proofs.NodeTags.{tags_counted}
use Rattle.osm_model.proofs.nodes.Nodes.count_tags.Goals as goal

pub returns : goal.returns
returns c = tags_counted _ _ _ _ _ _ c.self.view_is c.self.invariant.kept c.deref.ensures.value c.count_spans.ensures
