-- What the program prints of a fault.
use Rattle.std.specs.Prelude.{ℕ, List, [], ◌∷◌, ◌++◌, codes}
use Rattle.std.specs.Fmt.{decimal}
use Rattle.recovery.specs.declared.fault.OpenFault.{OpenFault}
use Rattle.recovery.specs.declared.fault.OpenFault.TheVariants as image
use Rattle.queue_looks.specs.declared.fault.HostFault.{HostFault}
use Rattle.queue_looks.specs.declared.fault.HostFault.TheVariants as host
use Rattle.commands.specs.declared.fault.Fault.{Fault}
use Rattle.commands.specs.declared.fault.Fault.TheVariants as fault

-- number and name
abbrev pub fault_text : Fault → List ℕ
fault_text fault.OutOfRange = codes "1 OutOfRange"
fault_text fault.NoMemory = codes "2 NoMemory"
fault_text fault.DiskFault = codes "10 DiskFault"
fault_text fault.NotFormatted = codes "12 NotFormatted"
fault_text fault.OtherConfig = codes "13 OtherConfig"
fault_text fault.Busy = codes "14 Busy"
fault_text fault.HistoryFull = codes "15 HistoryFull"
fault_text fault.NoRoom = codes "16 NoRoom"
fault_text fault.Foreign = codes "17 Foreign"
fault_text fault.BadBoard = codes "19 BadBoard"
fault_text (fault.BadScript line) = codes "20 BadScript line " ++ decimal line
fault_text fault.FileFault = codes "21 FileFault"

-- the line of a fault on standard error
abbrev pub fault_line : Fault → List ℕ
fault_line f = codes "rpmbd: " ++ fault_text f ++ 10 ∷ []

-- the fault of the same name
abbrev pub fault_of : HostFault → Fault
fault_of host.OutOfRange = fault.OutOfRange
fault_of host.NoMemory = fault.NoMemory
fault_of host.Busy = fault.Busy
fault_of host.HistoryFull = fault.HistoryFull
fault_of host.NoRoom = fault.NoRoom
fault_of host.Foreign = fault.Foreign

abbrev pub fault_of_image : OpenFault → Fault
fault_of_image image.DiskFault = fault.DiskFault
fault_of_image image.NoMemory = fault.NoMemory
fault_of_image image.NotFormatted = fault.NotFormatted
fault_of_image image.OtherConfig = fault.OtherConfig
