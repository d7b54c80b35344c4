-- What a fault of the host is to a reader of blobs.
use Rattle.host_port.specs.declared.host.HostFault.{HostFault}
use Rattle.host_port.specs.declared.host.HostFault.TheVariants as host_faults
use Rattle.pbf_blobs.specs.declared.fault.PbfFault.{PbfFault}
use Rattle.pbf_blobs.specs.declared.fault.PbfFault.TheVariants as faults

-- a failed call is a fault of reading, and want of memory stays what it is
abbrev pub becomes : HostFault → PbfFault
becomes host_faults.Failed = faults.Read
becomes host_faults.OutOfMemory = faults.OutOfMemory
