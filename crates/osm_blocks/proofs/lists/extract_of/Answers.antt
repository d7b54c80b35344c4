use Rattle.osm_blocks.proofs.Limits.{are_within}
use Rattle.osm_blocks.proofs.lists.extract_of.Goals as goal

pub invariant_of-result : goal.invariant_of-result
invariant_of-result c =
    let within = are_within _ c.requires.within in
    record {
      nodes_rise = c.requires.rising.nodes_rise;
      ways_rise = c.requires.rising.ways_rise;
      relations_rise = c.requires.rising.relations_rise;
      placed = c.requires.placed;
      node_limit = within.node_limit;
      way_limit = within.way_limit;
      relation_limit = within.relation_limit;
      ref_limit = within.ref_limit;
      member_limit = within.member_limit;
      tag_limit = within.tag_limit;
    }
