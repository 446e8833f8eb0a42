-- What a driver learns from a look at what its guest has, and which fault ends a run.
use Rattle.std.specs.Prelude.{◌≡◌, Bool, true, false, List, [], ◌∷◌, Option, Some, None, Result}
use Rattle.std.specs.Prelude.{Ok, Err}
use Rattle.std.specs.Option.{option_or}
use Rattle.guest_driver.specs.declared.fault.DriverFault.{DriverFault}
use Rattle.guest_driver.specs.declared.fault.DriverFault.TheVariants as driver
use Rattle.guest_driver.specs.declared.reaping.Reaped.{Reaped}
use Rattle.mmio_transport.specs.Job.{Job}
use Rattle.mmio_transport.specs.declared.fault.DeviceFault.{DeviceFault}
use Rattle.mmio_transport.specs.declared.fault.DeviceFault.TheVariants as device
use Rattle.rpmb_book.specs.Book.{BookView, counted_in}
use Rattle.queue_looks.specs.declared.fault.HostFault.{HostFault}
use Rattle.queue_looks.specs.declared.fault.HostFault.TheVariants as host
use Rattle.host.specs.declared.front.Stuck.TheVariants.{NeedsReset, BadUsed}
use Rattle.workers.specs.declared.seat.News.{News}
use Rattle.workers.specs.declared.seat.News.TheVariants as news

-- the fault of the same name; no offer ends with a bad used element
abbrev pub fault_of : DriverFault → HostFault
fault_of driver.NoRoom = host.NoRoom
fault_of driver.OutOfRange = host.OutOfRange
fault_of driver.NoMemory = host.NoMemory
fault_of driver.BadUsed = host.OutOfRange

-- A reply that is there is taken, also where the device stopped since; a used element that the
-- driver can't take, or a device that stopped, leaves the chain without a reply until the next
-- reset.
abbrev pub told : Result (Option Reaped) DriverFault → Bool → Result News HostFault
told (Ok (Some reaped)) stopped = Ok (news.Reply reaped.bytes)
told (Ok None) true = Ok (news.NoReply NeedsReset)
told (Ok None) false = Ok news.Nothing
told (Err driver.BadUsed) stopped = Ok (news.NoReply BadUsed)
told (Err driver.NoRoom) stopped = Err host.NoRoom
told (Err driver.OutOfRange) stopped = Err host.OutOfRange
told (Err driver.NoMemory) stopped = Err host.NoMemory

-- whether a device has stopped, after this answer to a pop
abbrev pub stopped_by : Result (Option Job) DeviceFault → Bool → Bool
stopped_by (Ok popped) stopped = stopped
stopped_by (Err (device.Refused fault)) stopped = true
stopped_by (Err device.NeedsReset) stopped = true
stopped_by (Err device.NoMemory) stopped = stopped

-- the fault of the lowest-numbered guest that has one: its worker's before its driver's
abbrev pub first_fault : List (Option HostFault) → List (Option HostFault) → Option HostFault
first_fault [] drivers = None
first_fault (w ∷ ws) [] = option_or w (first_fault ws [])
first_fault (w ∷ ws) (d ∷ ds) = option_or (option_or w d) (first_fault ws ds)

-- the book has counted 2^64 - 1 jobs: it takes none any more, whatever leaves
abbrev pub IsSpent : BookView → Type 0
IsSpent b = counted_in b ≡ 18446744073709551615
