-- What a host calls what a book refused.
use Rattle.std.specs.Prelude.{Option, Some, None}
use Rattle.rpmb_book.specs.declared.refused.Refused.{Refused}
use Rattle.rpmb_book.specs.declared.refused.Refused.TheVariants as refused
use Rattle.queue_looks.specs.declared.fault.HostFault.{HostFault}
use Rattle.queue_looks.specs.declared.fault.HostFault.TheVariants as host

-- the fault of the same name
abbrev pub fault_of : Refused → HostFault
fault_of refused.Foreign = host.Foreign
fault_of refused.Busy = host.Busy
fault_of refused.HistoryFull = host.HistoryFull
fault_of refused.NoMemory = host.NoMemory

-- what a host says of a job that wasn't answered: why the book refuses it whatever memory there is,
-- else want of memory
abbrev pub told_of : Option Refused → HostFault
told_of None = host.NoMemory
told_of (Some refused) = fault_of refused
