-- The front of an image: its header, its length and its version (own).
use Rattle.std.specs.Prelude.{◌≡◌, ◌≢◌, ℕ, Bool, true, List, Result, Ok, Err}
use Rattle.disk.specs.Content.{Content}
use Rattle.disk.specs.Disk.{DiskCall, Sync}
use Rattle.intent_slots.specs.Header.{HasCapacities}
use Rattle.intent_slots.specs.Layout.{image_length}
use Rattle.intent_slots.specs.Recovered.{is_paired}
use Rattle.flusher.specs.Store.{OnlyReads}
use Rattle.recovery.specs.Opening.{HasFront, IsOther}
use Rattle.recovery.specs.declared.fault.OpenFault.{OpenFault}
use Rattle.recovery.specs.declared.fault.OpenFault.TheVariants as fault
use Rattle.intent_slots.specs.declared.header.HeaderFault.{HeaderFault}
use Rattle.intent_slots.specs.declared.header.HeaderFault.TheVariants as header

-- the fault of a header that isn't the board's
abbrev pub fault_of_header : HeaderFault → OpenFault
fault_of_header header.NotFormatted = fault.NotFormatted
fault_of_header header.OtherConfig = fault.OtherConfig

-- this board's header, on a disk of its image's length
pub record HasHeader (capacities : List ℕ) (len : ℕ) (c : Content) : Type 0 where
  pub front : HasFront len c
  pub header : HasCapacities capacities c
  pub long : len ≡ image_length capacities

-- no header, or this board's on a disk of another length
pub data HasNoHeader (capacities : List ℕ) (len : ℕ) (c : Content) : Type 0 where
  NoMagic : ¬ HasFront len c → HasNoHeader capacities len c
  OtherLength : HasFront len c → HasCapacities capacities c → len ≢ image_length capacities
      → HasNoHeader capacities len c

abbrev pub TellsVersionFault : List ℕ → ℕ → Content → OpenFault → Type 0
TellsVersionFault capacities len c fault.NotFormatted = HasNoHeader capacities len c
TellsVersionFault capacities len c fault.OtherConfig = IsOther capacities len c
TellsVersionFault capacities len c fault.DiskFault = Unit {0}
TellsVersionFault capacities len c fault.NoMemory = ⊥

-- what header and version byte tell of the content
abbrev pub TellsVersion : List ℕ → ℕ → Content → Result Bool OpenFault → Type 0
TellsVersion capacities len c (Ok paired) = HasHeader capacities len c × (is_paired c ≡ paired)
TellsVersion capacities len c (Err f) = TellsVersionFault capacities len c f

-- a sync, and then reads alone
pub record SyncsAndReads {D : Type 0} (makes : D → DiskCall → D → Type 0)
    (old new : D) : Type 0 where
  pub synced : D
  pub sync : makes old (Sync true) synced
  pub reads : OnlyReads makes synced new
