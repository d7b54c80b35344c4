-- An input has no two answers, no two refusals, and no answer beside a refusal.
use Rattle.std.proofs.Common.{◌≡◌, ℕ, ℤ, List, [], map, Option, Some, None, Result, Ok, Err, refl, sym, ap, ◌∙◌}
use Rattle.pbf_blobs.specs.declared.blob.Blob.{Blob}
use Rattle.pbf_blobs.specs.declared.fault.PbfFault.{PbfFault}
use Rattle.pbf_blobs.specs.Next.{Outcome, Ends, Fails}
use Rattle.pbf_blobs.specs.Frames.{Frames, IsLast}
use Rattle.osm_model.specs.declared.extract.Extract.{Extract}
use Rattle.osm_objects.specs.Objects.{Objects}
use Rattle.osm_blocks.specs.declared.fault.ExtractFault.{ExtractFault}
use Rattle.osm_blocks.specs.Faults.{framed_as}
use Rattle.osm_blocks.specs.Extracts.{Refuses, Reading, Extracted, Refused, IsReading, lists_of}
use Rattle.build_flow.specs.declared.faults.LimitFault.{LimitFault}
use Rattle.build_flow.specs.Unbuilt.{first_restriction, unbuilt}
use Rattle.build_flow.specs.FolderFiles.{limit_passed}
use Rattle.build_flow.specs.BuildLaws.{SameObjects, BuildsByObjects}
use Rattle.mjolnir_cli.specs.declared.answer.Answer.{Answer}
use Rattle.mjolnir_cli.specs.declared.failure.Failure.{Failure}
use Rattle.mjolnir_cli.specs.declared.failure.Failure.TheVariants as failures
use Rattle.mjolnir_cli.specs.declared.failure.Failure.TheVariants.{Words, Read, Put, NotBuilt, Limit, OutOfMemory}
use Rattle.command_words.specs.declared.command.BuildOptions.{BuildOptions}
use Rattle.mjolnir_cli.specs.declared.words.Command.{Command}
use Rattle.mjolnir_cli.specs.declared.words.Command.TheVariants.{Blobs, Build}
use Rattle.mjolnir_cli.specs.Commands.BuildCommand.{file_in, output_files, Spells}
use Rattle.mjolnir_cli.specs.Commands.BlobsCommand.{blob_lines}
use Rattle.mjolnir_cli.specs.Commands.{EndsSo}

-- ---- what the bytes are, in one way

-- the frames of the bytes have one list of blobs and one last outcome
abbrev FramesOneWay : List ℕ → Type 0
FramesOneWay bytes =
    (blobs others : List Blob) (outcome other : Outcome) → IsLast outcome → IsLast other → Frames bytes 0 blobs outcome → Frames bytes 0 others other → (others ≡ blobs) × (other ≡ outcome)

-- the bytes have one reading
abbrev ReadsOneWay : List ℕ → Type 0
ReadsOneWay bytes = (one other : Reading) → IsReading bytes one → IsReading bytes other → one ≡ other

-- an answer with these parts
answer_is : (answer : Answer) (files : List (List ℕ × List ℕ)) (text : List ℕ) → answer.files ≡ files → answer.text ≡ text → answer ≡ record { files = files; text = text }
answer_is answer files text files_are text_is =
    ap (λ (fs : List (List ℕ × List ℕ)). record { files = fs; text = answer.text }) files_are ∙ ap (λ (t : List ℕ). record { files = files; text = t }) text_is

-- ---- blobs

-- the answer that lists these blobs
abbrev listing : List Blob → Answer
listing blobs = record { files = []; text = blob_lines blobs }

-- a listing ends by the last outcome of the frames
data ListsSo (bytes : List ℕ) (end : Result Answer Failure) : Type 0 where
  whole : (blobs : List Blob) → Frames bytes 0 blobs Ends → end ≡ Ok (listing blobs) → ListsSo bytes end
  stopped : (blobs : List Blob) (fault : PbfFault) → Frames bytes 0 blobs (Fails fault) → end ≡ Err (failures.Extract (framed_as fault)) → ListsSo bytes end

lists_so : (path bytes : List ℕ) (end : Result Answer Failure) → EndsSo (Blobs path) bytes end → ListsSo bytes end
lists_so path bytes (Ok answer) is = whole is.lists.0 is.lists.1 (ap Ok (answer_is answer [] (blob_lines is.lists.0) is.unput is.lists.2))
lists_so path bytes (Err (failures.Extract fault)) is = stopped is.0 is.1 is.2 (ap (λ f. Err (failures.Extract f)) is.3)
lists_so path bytes (Err Words) is = absurd is
lists_so path bytes (Err Read) is = absurd is
lists_so path bytes (Err Put) is = absurd is
lists_so path bytes (Err (NotBuilt id)) is = absurd is
lists_so path bytes (Err (Limit limit)) is = absurd is
lists_so path bytes (Err OutOfMemory) is = absurd is

ends_fails : (fault : PbfFault) → Ends ≡ Fails fault → ⊥
ends_fails fault e = cc

fault_is : (f g : PbfFault) → ◌≡◌ {A = Outcome} (Fails f) (Fails g) → f ≡ g
fault_is f g e = cc

listed_once : (bytes : List ℕ) (one other : Result Answer Failure) → FramesOneWay bytes → ListsSo bytes one → ListsSo bytes other → one ≡ other
listed_once bytes one other way (whole a f is) (whole b g also) = is ∙ ap (λ blobs. Ok (listing blobs)) (way b a Ends Ends tt tt g f).0 ∙ sym also
listed_once bytes one other way (whole a f is) (stopped b fault g also) = absurd (ends_fails fault (way b a (Fails fault) Ends tt tt g f).1)
listed_once bytes one other way (stopped a fault f is) (whole b g also) = absurd (ends_fails fault (way a b (Fails fault) Ends tt tt f g).1)
listed_once bytes one other way (stopped a fault f is) (stopped b more g also) =
    is ∙ ap (λ x. Err (failures.Extract (framed_as x))) (fault_is fault more (way b a (Fails more) (Fails fault) tt tt g f).1) ∙ sym also

-- ---- build

-- the end for an extract: by the first object that isn't built, if there is one, and the limit that its roads pass
abbrev end_by : Option ℤ → Option LimitFault → List (List ℕ × List ℕ) → Result Answer Failure
end_by (Some object) limit files = Err (NotBuilt object)
end_by None (Some limit) files = Err (Limit limit)
end_by None None files = Ok (record { files = files; text = [] })

abbrev end_of : List ℕ → ℕ → Extract → Result Answer Failure
end_of output modes x = end_by (unbuilt x) (limit_passed x modes) (output_files output modes x)

end_is : (output : List ℕ) (modes : ℕ) (x : Extract) (object : Option ℤ) (limit : Option LimitFault) → unbuilt x ≡ object → limit_passed x modes ≡ limit → end_of output modes x ≡ end_by object limit (output_files output modes x)
end_is output modes x object limit first passed =
    ap (λ o. end_by o (limit_passed x modes) (output_files output modes x)) first ∙ ap (λ l. end_by object l (output_files output modes x)) passed

-- lists of the same objects
same_objects : (x y : Extract) → lists_of x ≡ lists_of y → SameObjects x y
same_objects x y same = record {
  nodes = ap (λ (o : Objects). o.nodes) same;
  ways = ap (λ (o : Objects). o.ways) same;
  relations = ap (λ (o : Objects). o.relations) same;
}

same_unbuilt : (x y : Extract) → SameObjects x y → unbuilt x ≡ unbuilt y
same_unbuilt x y same = ap first_restriction same.relations

-- extracts of the same objects end in the same way
same_end : BuildsByObjects → (output : List ℕ) (modes : ℕ) (x y : Extract) → SameObjects x y → end_of output modes x ≡ end_of output modes y
same_end law output modes x y same = by (unbuilt x) refl
  where
    by : (object : Option ℤ) → unbuilt x ≡ object → end_of output modes x ≡ end_of output modes y
    by (Some object) first =
        end_is output modes x (Some object) (limit_passed x modes) first refl
        ∙ sym (end_is output modes y (Some object) (limit_passed y modes) (sym (same_unbuilt x y same) ∙ first) refl)
    by None built =
        let build = law x y modes same in
        end_is output modes x None (limit_passed x modes) built refl
        ∙ ap (λ limit. end_by None limit (output_files output modes x)) build.limits
        ∙ ap (λ files. end_by None (limit_passed y modes) (map (file_in output) files)) build.files
        ∙ sym (end_is output modes y None (limit_passed y modes) (sym (same_unbuilt x y same) ∙ built) refl)

-- a build ends by the reading of the bytes
data BuildsSo (output : List ℕ) (modes : ℕ) (bytes : List ℕ) (end : Result Answer Failure) : Type 0 where
  of_extract : (x : Extract) → Spells bytes x → end ≡ end_of output modes x → BuildsSo output modes bytes end
  of_fault : (fault : ExtractFault) → Refuses bytes fault → end ≡ Err (failures.Extract fault) → BuildsSo output modes bytes end

builds_so : (options : BuildOptions) (bytes : List ℕ) (end : Result Answer Failure) → EndsSo (Build options) bytes end → BuildsSo options.output options.modes bytes end
builds_so options bytes (Ok answer) is =
    of_extract is.extract is.spelled (ap Ok (answer_is answer (output_files options.output options.modes is.extract) [] is.files is.silent) ∙ sym (end_is options.output options.modes is.extract None None is.built is.within))
builds_so options bytes (Err (failures.Extract fault)) is = of_fault fault is refl
builds_so options bytes (Err (NotBuilt id)) is =
    of_extract is.extract is.spelled (sym (end_is options.output options.modes is.extract (Some id) (limit_passed is.extract options.modes) is.first refl))
builds_so options bytes (Err (Limit limit)) is =
    of_extract is.extract is.spelled (sym (end_is options.output options.modes is.extract None (Some limit) is.built is.passed))
builds_so options bytes (Err Words) is = absurd is
builds_so options bytes (Err Read) is = absurd is
builds_so options bytes (Err Put) is = absurd is
builds_so options bytes (Err OutOfMemory) is = absurd is

lists_are : (a b : Objects) → Extracted a ≡ Extracted b → a ≡ b
lists_are a b e = cc

refused_is : (a b : ExtractFault) → Refused a ≡ Refused b → a ≡ b
refused_is a b e = cc

extracted_refused : (lists : Objects) (fault : ExtractFault) → Extracted lists ≡ Refused fault → ⊥
extracted_refused lists fault e = cc

built_once : BuildsByObjects → (output : List ℕ) (modes : ℕ) (bytes : List ℕ) (one other : Result Answer Failure) → ReadsOneWay bytes → BuildsSo output modes bytes one → BuildsSo output modes bytes other → one ≡ other
built_once law output modes bytes one other way (of_extract x a is) (of_extract y b also) =
    is ∙ same_end law output modes x y (same_objects x y (lists_are (lists_of x) (lists_of y) (way (Extracted (lists_of x)) (Extracted (lists_of y)) a b))) ∙ sym also
built_once law output modes bytes one other way (of_extract x a is) (of_fault fault b also) = absurd (extracted_refused (lists_of x) fault (way (Extracted (lists_of x)) (Refused fault) a b))
built_once law output modes bytes one other way (of_fault fault a is) (of_extract y b also) = absurd (extracted_refused (lists_of y) fault (way (Extracted (lists_of y)) (Refused fault) b a))
built_once law output modes bytes one other way (of_fault fault a is) (of_fault more b also) = is ∙ ap (λ f. Err (failures.Extract f)) (refused_is fault more (way (Refused fault) (Refused more) a b)) ∙ sym also

-- ---- each command

pub one_end : (command : Command) (bytes : List ℕ) → FramesOneWay bytes → ReadsOneWay bytes → BuildsByObjects → (one other : Result Answer Failure) → EndsSo command bytes one → EndsSo command bytes other → one ≡ other
one_end (Blobs path) bytes frames reads law one other so also = listed_once bytes one other frames (lists_so path bytes one so) (lists_so path bytes other also)
one_end (Build options) bytes frames reads law one other so also = built_once law options.output options.modes bytes one other reads (builds_so options bytes one so) (builds_so options bytes other also)
