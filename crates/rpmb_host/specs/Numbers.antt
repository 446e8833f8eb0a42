-- The numbers by which C is told: those of rpmb_host.h (own).
use Rattle.std.specs.Prelude.{ℕ, Bool, true, false, Option, Some, None}
use Rattle.mmio_transport.specs.declared.registers.Kick.{Kick}
use Rattle.mmio_transport.specs.declared.registers.Kick.TheVariants as kick
use Rattle.machine.specs.declared.fault.MachineFault.{MachineFault}
use Rattle.machine.specs.declared.fault.MachineFault.TheVariants as fault
use Rattle.machine.specs.declared.machine.What.{What}
use Rattle.machine.specs.declared.machine.What.TheVariants as what

-- enum rpmb_kick
abbrev pub kick_number : Kick → ℕ
kick_number kick.None = 0
kick_number kick.Notify = 1
kick_number kick.Reset = 2

-- enum rpmb_fault
abbrev pub fault_number : MachineFault → ℕ
fault_number fault.NoGuest = 1
fault_number fault.OutOfRange = 2
fault_number fault.NoMemory = 3
fault_number fault.Stopped = 4
fault_number fault.Busy = 5
fault_number fault.HistoryFull = 6
fault_number fault.DiskFault = 7
fault_number fault.BadBoard = 8
fault_number fault.NotFormatted = 9
fault_number fault.OtherConfig = 10
fault_number fault.BadLength = 11
fault_number fault.NotAwaited = 12
fault_number fault.NotAtRest = 13
fault_number fault.BadState = 14

-- the same, and 0 where there is none
abbrev pub told_number : Option MachineFault → ℕ
told_number None = 0
told_number (Some fault) = fault_number fault

-- enum rpmb_what
abbrev pub what_number : What → ℕ
what_number what.Rest = 0
what_number what.Read = 1
what_number what.Write = 2
what_number what.Call = 3
what_number what.Again = 4

abbrev pub flag : Bool → ℕ
flag true = 1
flag false = 0
