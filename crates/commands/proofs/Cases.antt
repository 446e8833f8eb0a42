-- The faults that a table allows, one by one.
use Rattle.std.proofs.Common.{◌≡◌, ℕ, List, Option, Err, []}
use Rattle.commands.proofs.Common.{true, Keeps, DiskState, HasRisen, GuestConfig, Said, IsOfReading}
use Rattle.commands.proofs.Common.{IsOfTelling, LineEnds, OpeningEnds, MayEnd, Moment, StopsAt}
use Rattle.commands.proofs.Common.{broken_at, Fault}
use Rattle.recovery.specs.Opening.{IsOther, IsUnformatted}
use Rattle.commands.specs.declared.fault.Fault.TheVariants as fault

-- why an image isn't opened
pub opening_cases : (capacities : List ℕ) (old new : DiskState) (P : Fault → Type 0)
    → P fault.NoMemory → (HasRisen old.failures new.failures → P fault.DiskFault)
    → ((old.faithful ≡ true → IsUnformatted capacities old.len old.seen) → P fault.NotFormatted)
    → ((old.faithful ≡ true → IsOther capacities old.len old.seen) → P fault.OtherConfig)
    → (f : Fault) → OpeningEnds capacities old new f → P f
opening_cases capacities old new P memory disk none other fault.NoMemory is = memory
opening_cases capacities old new P memory disk none other fault.DiskFault is = disk is
opening_cases capacities old new P memory disk none other fault.NotFormatted is = none is
opening_cases capacities old new P memory disk none other fault.OtherConfig is = other is
opening_cases capacities old new P memory disk none other fault.OutOfRange is = absurd is
opening_cases capacities old new P memory disk none other fault.Busy is = absurd is
opening_cases capacities old new P memory disk none other fault.HistoryFull is = absurd is
opening_cases capacities old new P memory disk none other fault.NoRoom is = absurd is
opening_cases capacities old new P memory disk none other fault.Foreign is = absurd is
opening_cases capacities old new P memory disk none other fault.BadBoard is = absurd is
opening_cases capacities old new P memory disk none other fault.FileFault is = absurd is
opening_cases capacities old new P memory disk none other (fault.BadScript line) is = absurd is

-- why a script isn't read
pub reading_cases : (P : Fault → Type 0) → P fault.NoMemory → ((n : ℕ) → P (fault.BadScript n))
    → (f : Fault) → IsOfReading f → P f
reading_cases P memory bad fault.NoMemory is = memory
reading_cases P memory bad (fault.BadScript line) is = bad line
reading_cases P memory bad fault.DiskFault is = absurd is
reading_cases P memory bad fault.NotFormatted is = absurd is
reading_cases P memory bad fault.OtherConfig is = absurd is
reading_cases P memory bad fault.OutOfRange is = absurd is
reading_cases P memory bad fault.Busy is = absurd is
reading_cases P memory bad fault.HistoryFull is = absurd is
reading_cases P memory bad fault.NoRoom is = absurd is
reading_cases P memory bad fault.Foreign is = absurd is
reading_cases P memory bad fault.BadBoard is = absurd is
reading_cases P memory bad fault.FileFault is = absurd is

-- why a line ends a run
pub line_cases : (board : List GuestConfig) (n : ℕ) (line : Said) (P : Fault → Type 0)
    → (LineEnds board n fault.FileFault line → P fault.FileFault)
    → (LineEnds board n fault.NoMemory line → P fault.NoMemory)
    → (LineEnds board n fault.HistoryFull line → P fault.HistoryFull)
    → (LineEnds board n fault.OutOfRange line → P fault.OutOfRange) → (f : Fault)
    → LineEnds board n f line → P f
line_cases board n line P file memory full range fault.FileFault ends = file ends
line_cases board n line P file memory full range fault.NoMemory ends = memory ends
line_cases board n line P file memory full range fault.HistoryFull ends = full ends
line_cases board n line P file memory full range fault.OutOfRange ends = range ends
line_cases board n line P file memory full range fault.DiskFault ends = absurd ends
line_cases board n line P file memory full range fault.NotFormatted ends = absurd ends
line_cases board n line P file memory full range fault.OtherConfig ends = absurd ends
line_cases board n line P file memory full range fault.Busy ends = absurd ends
line_cases board n line P file memory full range fault.NoRoom ends = absurd ends
line_cases board n line P file memory full range fault.Foreign ends = absurd ends
line_cases board n line P file memory full range fault.BadBoard ends = absurd ends
line_cases board n line P file memory full range (fault.BadScript k) ends = absurd ends

-- how the lines of a run ended that has a fault
pub end_cases : {D : Type 0} (board : List GuestConfig) (rest : List Said) (last after : Moment D)
    (now : Option (List ℕ)) (P : Fault → Type 0)
    → (rest ≡ [] → Keeps last.printed now → broken_at after ≡ true → P fault.DiskFault)
    → P fault.FileFault → ((f : Fault) → StopsAt board f rest last after
    → Keeps last.printed now → P f)
    → (f : Fault) → MayEnd board (Err f) rest last after now → P f
end_cases board rest last after now P disk file stop fault.DiskFault ends =
    disk ends.0 ends.1 ends.2
end_cases board rest last after now P disk file stop fault.FileFault ends = file
end_cases board rest last after now P disk file stop fault.NoMemory ends =
    stop fault.NoMemory ends.0 ends.1
end_cases board rest last after now P disk file stop fault.HistoryFull ends =
    stop fault.HistoryFull ends.0 ends.1
end_cases board rest last after now P disk file stop fault.OutOfRange ends =
    stop fault.OutOfRange ends.0 ends.1
end_cases board rest last after now P disk file stop fault.NotFormatted ends =
    stop fault.NotFormatted ends.0 ends.1
end_cases board rest last after now P disk file stop fault.OtherConfig ends =
    stop fault.OtherConfig ends.0 ends.1
end_cases board rest last after now P disk file stop fault.Busy ends = stop fault.Busy ends.0 ends.1
end_cases board rest last after now P disk file stop fault.NoRoom ends =
    stop fault.NoRoom ends.0 ends.1
end_cases board rest last after now P disk file stop fault.Foreign ends =
    stop fault.Foreign ends.0 ends.1
end_cases board rest last after now P disk file stop fault.BadBoard ends =
    stop fault.BadBoard ends.0 ends.1
end_cases board rest last after now P disk file stop (fault.BadScript n) ends =
    stop (fault.BadScript n) ends.0 ends.1

-- why the lines of a serve aren't told
pub telling_cases : (P : Fault → Type 0) → P fault.DiskFault → P fault.NoMemory → P fault.FileFault
    → (f : Fault) → IsOfTelling f → P f
telling_cases P disk memory file fault.DiskFault is = disk
telling_cases P disk memory file fault.NoMemory is = memory
telling_cases P disk memory file fault.FileFault is = file
telling_cases P disk memory file fault.NotFormatted is = absurd is
telling_cases P disk memory file fault.OtherConfig is = absurd is
telling_cases P disk memory file fault.OutOfRange is = absurd is
telling_cases P disk memory file fault.Busy is = absurd is
telling_cases P disk memory file fault.HistoryFull is = absurd is
telling_cases P disk memory file fault.NoRoom is = absurd is
telling_cases P disk memory file fault.Foreign is = absurd is
telling_cases P disk memory file fault.BadBoard is = absurd is
telling_cases P disk memory file (fault.BadScript line) is = absurd is
