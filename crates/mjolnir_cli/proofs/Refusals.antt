-- What a refusal names.
use Rattle.std.proofs.Common.{◌≡◌, ℕ, List, true, ap, ◌∙◌}
use Rattle.pbf_blobs.proofs.OfBytes.{frames_of_bytes}
use Rattle.osm_blocks.specs.declared.fault.ExtractFault.{ExtractFault}
use Rattle.osm_blocks.specs.Faults.{is_of_bytes}
use Rattle.osm_blocks.specs.Extracts.{Refuses}
use Rattle.mjolnir_cli.specs.declared.words.Command.{Command}
use Rattle.mjolnir_cli.specs.declared.words.Command.TheVariants.{Blobs, Build}
use Rattle.mjolnir_cli.specs.declared.failure.Failure.{Failure}
use Rattle.mjolnir_cli.specs.declared.failure.Failure.TheVariants as failures
use Rattle.mjolnir_cli.specs.Commands.{IsRefused, NamesInput}
use Rattle.mjolnir_cli.specs.Commands.BlobsCommand.{StopsAt}
use Rattle.mjolnir_cli.specs.Commands.BuildCommand.{IsBuildRefused}
use Rattle.mjolnir_cli.proofs.Causes.{framed_bytes}

blobs_refusals : (bytes : List ℕ) (failure : Failure) → StopsAt bytes failure → NamesInput failure
blobs_refusals bytes (failures.Extract fault) stops = ap is_of_bytes stops.3 ∙ (framed_bytes stops.1 ∙ frames_of_bytes bytes 0 stops.0 stops.1 stops.2)
blobs_refusals bytes failures.Words stops = absurd stops
blobs_refusals bytes failures.Read stops = absurd stops
blobs_refusals bytes failures.Put stops = absurd stops
blobs_refusals bytes (failures.NotBuilt id) stops = tt
blobs_refusals bytes (failures.Limit limit) stops = tt
blobs_refusals bytes failures.OutOfMemory stops = absurd stops

build_refusals : ((bytes : List ℕ) (fault : ExtractFault) → Refuses bytes fault → is_of_bytes fault ≡ true) → (modes : ℕ) (bytes : List ℕ) (failure : Failure) → IsBuildRefused modes bytes failure → NamesInput failure
build_refusals law modes bytes (failures.Extract fault) refuses = law bytes fault refuses
build_refusals law modes bytes failures.Words refuses = absurd refuses
build_refusals law modes bytes failures.Read refuses = absurd refuses
build_refusals law modes bytes failures.Put refuses = absurd refuses
build_refusals law modes bytes (failures.NotBuilt id) refuses = tt
build_refusals law modes bytes (failures.Limit limit) refuses = tt
build_refusals law modes bytes failures.OutOfMemory refuses = absurd refuses

pub refusals : ((bytes : List ℕ) (fault : ExtractFault) → Refuses bytes fault → is_of_bytes fault ≡ true) → (command : Command) (bytes : List ℕ) (failure : Failure) → IsRefused command bytes failure → NamesInput failure
refusals law (Blobs path) bytes failure refused = blobs_refusals bytes failure refused
refusals law (Build options) bytes failure refused = build_refusals law options.modes bytes failure refused
