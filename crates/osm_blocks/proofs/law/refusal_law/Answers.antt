use Rattle.osm_blocks.proofs.ContentLaw.{Laws}
use Rattle.osm_blocks.proofs.RefusalLaw.{FaultLaws, fault_of_file, file_of_fault}
use Rattle.osm_blocks.proofs.law.refusal_law.Goals as goal

pub returns : goal.returns
returns c =
    let laws : Laws = record {
      header = c.block_law.ensures.header;
      block = c.block_law.ensures.block;
      objects = c.object_law.ensures.objects;
      triples = c.framing_law.ensures.triples;
    } in
    let fault_laws : FaultLaws = record {
      header = c.block_law.ensures.header_fault;
      block = c.block_law.ensures.block_fault;
      objects = c.object_law.ensures.fault;
      causes = c.framing_law.ensures.causes;
    } in
    λ bytes are fault. (fault_of_file laws fault_laws bytes are fault, file_of_fault laws fault_laws bytes are fault)
