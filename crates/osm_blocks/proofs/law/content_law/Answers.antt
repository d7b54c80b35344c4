use Rattle.osm_blocks.proofs.ContentLaw.{Laws, file_of, reads_of}
use Rattle.osm_blocks.proofs.law.content_law.Goals as goal

pub returns : goal.returns
returns c =
    let laws : Laws = record {
      header = c.block_law.ensures.header;
      block = c.block_law.ensures.block;
      objects = c.object_law.ensures.objects;
      triples = c.framing_law.ensures.triples;
    } in
    λ bytes are lists. (file_of laws bytes are lists, reads_of laws bytes are lists)
