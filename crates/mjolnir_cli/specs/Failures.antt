-- Why a command failed: the status that the program ends with, and the line that it says.
use Rattle.std.specs.Prelude.{ℕ, nat_lt, if◌then◌else◌, List, [], ◌∷◌, ◌++◌, map, codes}
use Rattle.std.specs.Fmt.{signed_decimal}
use Rattle.host_port.specs.declared.host.HostFault.{HostFault}
use Rattle.host_port.specs.declared.host.HostFault.TheVariants as host_faults
use Rattle.pbf_blobs.specs.declared.fault.PbfFault.{PbfFault}
use Rattle.osm_blocks.specs.declared.fault.ExtractFault.{ExtractFault}
use Rattle.osm_blocks.specs.declared.fault.ExtractFault.TheVariants as faults
use Rattle.osm_blocks.specs.Faults.{framed_as}
use Rattle.osm_blocks.specs.FaultLines.{extract_fault_line}
use Rattle.build_flow.specs.declared.faults.FlowFault.{FlowFault}
use Rattle.build_flow.specs.declared.faults.FlowFault.TheVariants as flow_faults
use Rattle.build_flow.specs.LimitLines.{limit_line}
use Rattle.mjolnir_cli.specs.declared.failure.Failure.{Failure}
use Rattle.mjolnir_cli.specs.declared.failure.Failure.TheVariants.{Words, Read, Put, Extract, NotBuilt, Limit, OutOfMemory}

-- what a failure is due to
pub data Cause : Type 0 where
  OfWords : Cause
  OfReading : Cause
  OfPutting : Cause
  -- the input's bytes, or an object that isn't built yet
  OfBytes : Cause
  -- a limit that the roads of the input pass
  OfLimits : Cause
  OfMemory : Cause

abbrev pub cause_of : Failure → Cause
cause_of Words = OfWords
cause_of Read = OfReading
cause_of Put = OfPutting
cause_of (Extract fault) = OfBytes
cause_of (NotBuilt id) = OfBytes
cause_of (Limit limit) = OfLimits
cause_of OutOfMemory = OfMemory

-- each cause has its status
abbrev pub status_for : Cause → ℕ
status_for OfWords = 2
status_for OfReading = 3
status_for OfPutting = 4
status_for OfBytes = 5
status_for OfLimits = 6
status_for OfMemory = 7

abbrev pub status_of : Failure → ℕ
status_of failure = status_for (cause_of failure)

-- The text of the line, without its end. A fault of the input, and a limit of its roads, is said by the crate that
-- finds it; the status stands before it.
abbrev pub text_of : Failure → List ℕ
text_of Words = codes "error 2 words"
text_of Read = codes "error 3 read"
text_of Put = codes "error 4 put"
text_of (Extract fault) = codes "error 5 " ++ extract_fault_line fault
text_of (NotBuilt id) = codes "error 5 NotBuilt kind=relation id=" ++ signed_decimal id
text_of (Limit limit) = codes "error 6 " ++ limit_line limit
text_of OutOfMemory = codes "error 7 memory"

-- a byte as it is said: `?` in place of a byte below 32
abbrev pub printable : ℕ → ℕ
printable byte = if nat_lt byte 32 then 63 else byte

-- the line, which has one end
abbrev pub line_of : Failure → List ℕ
line_of failure = map printable (text_of failure) ++ 10 ∷ []

-- what a fault of the host is to a command that reads, and to one that puts
abbrev pub of_host : HostFault → Failure
of_host host_faults.Failed = Read
of_host host_faults.OutOfMemory = OutOfMemory

abbrev pub of_put : HostFault → Failure
of_put host_faults.Failed = Put
of_put host_faults.OutOfMemory = OutOfMemory

-- what a fault of an extract is to a command, and a fault of the frames
abbrev pub of_extract : ExtractFault → Failure
of_extract faults.Read = Read
of_extract faults.OutOfMemory = OutOfMemory
of_extract fault = Extract fault

abbrev pub of_pbf : PbfFault → Failure
of_pbf fault = of_extract (framed_as fault)

-- what a fault of the build is to a command
abbrev pub of_flow : FlowFault → Failure
of_flow (flow_faults.Limit limit) = Limit limit
of_flow flow_faults.OutOfMemory = OutOfMemory
