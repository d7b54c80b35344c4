-- The blobs that were listed before a place of the input.
use Rattle.std.proofs.Common.{◌≡◌, ℕ, List, [], ◌∷◌, ◌++◌, drop, refl, sym, ap, subst, ◌∙◌, append_assoc, append-nil}
use Rattle.std.proofs.lemmas.List.Concat.{flat_map-append}
use Rattle.pbf_blobs.specs.declared.blob.Blob.{Blob}
use Rattle.pbf_blobs.specs.Next.{Outcome, Ends, Gives, Fails, next_of}
use Rattle.pbf_blobs.specs.Frames.{Frames}
use Rattle.pbf_blobs.specs.Answers.{AnswersFault, is_of_bytes}
use Rattle.pbf_blobs.specs.declared.fault.PbfFault.{PbfFault}
use Rattle.osm_blocks.specs.Faults.{framed_as}
use Rattle.mjolnir_cli.specs.declared.failure.Failure.TheVariants.{Extract}
use Rattle.mjolnir_cli.specs.Failures.{of_pbf, cause_of}
use Rattle.mjolnir_cli.specs.Commands.BlobsCommand.{blob_line, blob_lines, ListsBlobs, StopsAt}
use Rattle.mjolnir_cli.specs.Listing.{IfOfInput}
use Rattle.mjolnir_cli.proofs.Causes.{if_input_frame, where_map}

-- the text is the lines of blobs that lead from the input's start to the place
pub record ListedTo (bytes : List ℕ) (at : ℕ) (text : List ℕ) : Type 0 where
  pub blobs : List Blob
  pub lines : text ≡ blob_lines blobs
  pub leads : (more : List Blob) (outcome : Outcome) → Frames bytes at more outcome → Frames bytes 0 (blobs ++ more) outcome

-- no blob leads to the start
pub listed_none : (bytes : List ℕ) → ListedTo bytes 0 []
listed_none bytes = record { blobs = []; lines = refl; leads = λ more outcome frames. frames }

-- one blob more
pub listed_one : (bytes : List ℕ) (at : ℕ) (text new : List ℕ) (blob : Blob) → ListedTo bytes at text → next_of at (drop at bytes) ≡ Gives blob → new ≡ text ++ blob_line blob → ListedTo bytes blob.end new
listed_one bytes at text new blob so_far gives line = record {
  blobs = so_far.blobs ++ blob ∷ [];
  lines = line ∙ ap (λ front. front ++ blob_line blob) so_far.lines ∙ sym (flat_map-append blob_line so_far.blobs (blob ∷ []) ∙ ap (λ last. blob_lines so_far.blobs ++ last) (append-nil (blob_line blob)));
  leads = λ more outcome frames. subst (λ all. Frames bytes 0 all outcome) (sym (append_assoc so_far.blobs (blob ∷ []) more)) (so_far.leads (blob ∷ more) outcome (gives, frames));
}

-- what stands behind the blobs ends them
ends_with : (bytes : List ℕ) (at : ℕ) (text : List ℕ) (outcome : Outcome) (so_far : ListedTo bytes at text) → next_of at (drop at bytes) ≡ outcome → Frames bytes 0 so_far.blobs outcome
ends_with bytes at text outcome so_far is = subst (λ all. Frames bytes 0 all outcome) (append-nil so_far.blobs) (so_far.leads [] outcome is)

pub lists_all : (bytes : List ℕ) (at : ℕ) (text : List ℕ) → ListedTo bytes at text → next_of at (drop at bytes) ≡ Ends → ListsBlobs bytes text
lists_all bytes at text so_far is = (so_far.blobs, ends_with bytes at text Ends so_far is, so_far.lines)

-- a fault of the frames behind the blobs is the one with which the input is refused
pub stops : (bytes : List ℕ) (at : ℕ) (text : List ℕ) (fault : PbfFault) → ListedTo bytes at text → AnswersFault fault (next_of at (drop at bytes)) → IfOfInput (cause_of (of_pbf fault)) (StopsAt bytes (of_pbf fault))
stops bytes at text fault so_far is =
    if_input_frame (StopsAt bytes) fault (where_map (next_of at (drop at bytes) ≡ Fails fault) (StopsAt bytes (Extract (framed_as fault))) (is_of_bytes fault) (λ fails. (so_far.blobs, fault, ends_with bytes at text (Fails fault) so_far fails, refl)) is)
