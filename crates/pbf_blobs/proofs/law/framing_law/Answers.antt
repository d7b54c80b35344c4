use Rattle.pbf_blobs.proofs.Meanings.{outcome_means}
use Rattle.pbf_blobs.proofs.Framed.{frames_are_triples, is_framed, one_way}
use Rattle.pbf_blobs.proofs.law.framing_law.Goals as goal

pub returns-clause-causes : goal.returns-clause-causes
returns-clause-causes c = outcome_means

pub returns-clause-triples : goal.returns-clause-triples
returns-clause-triples c = frames_are_triples

pub returns-clause-framed : goal.returns-clause-framed
returns-clause-framed c = is_framed

pub returns-clause-one_way : goal.returns-clause-one_way
returns-clause-one_way c = one_way
