-- What is answered, in the words of the format.
use Rattle.std.proofs.Common.{◌↔◌, ℕ, List, Result, Ok, Err}
use Rattle.std.specs.Prelude.{IfOk, IfErr}
use Rattle.osm_model.specs.declared.extract.Extract.{Extract}
use Rattle.pbf_blobs.specs.Answers.{Where}
use Rattle.osm_objects.specs.Objects.{Objects}
use Rattle.osm_blocks.specs.declared.fault.ExtractFault.{ExtractFault}
use Rattle.osm_blocks.specs.Faults.{is_of_bytes}
use Rattle.osm_blocks.specs.Extracts.{Reads, Refuses, lists_of}
use Rattle.osm_blocks.specs.ReadAnswers.{Answers}
use Rattle.osm_blocks.specs.FileContent.{IsFileOf}
use Rattle.osm_blocks.specs.FileFaults.{IsFaultyFile}
use Rattle.osm_blocks.proofs.Prefix.{where_map}

pub file_answer : (bytes : List ℕ) (result : Result Extract ExtractFault) → ((lists : Objects) → Reads bytes lists ↔ IsFileOf bytes lists) → Answers bytes result → IfOk result (λ extract. IsFileOf bytes (lists_of extract))
file_answer bytes (Ok extract) law h = (law (lists_of extract)).0 h
file_answer bytes (Err fault) law h = tt

pub fault_answer : (bytes : List ℕ) (result : Result Extract ExtractFault) → ((fault : ExtractFault) → Refuses bytes fault ↔ IsFaultyFile bytes fault) → Answers bytes result → IfErr result (λ fault. Where (is_of_bytes fault) (IsFaultyFile bytes fault))
fault_answer bytes (Ok extract) law h = tt
fault_answer bytes (Err fault) law h = where_map (is_of_bytes fault) (λ refuses. (law fault).0 refuses) h
