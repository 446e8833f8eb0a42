-- What the threads of a serve leave of the image, at each moment.
use Rattle.std.specs.Prelude.{◌≡◌, ◌⊎◌, ◌<◌, ◌≤◌, ℕ, Bool, true, false, List, Option, Result, Ok}
use Rattle.std.specs.Prelude.{Err, IfSome, length, take}
use Rattle.rpmb_frame.specs.Partition.{Partition, sequence}
use Rattle.rpmb_frame.specs.declared.config.GuestConfig.{GuestConfig}
use Rattle.disk.specs.Content.{Content}
use Rattle.disk.specs.Disk.{DiskCall, DiskState, HasRisen, MayLeave, Within}
use Rattle.intent_slots.specs.Layout.{capacities_of, region_at}
use Rattle.intent_slots.specs.Payload.{Intent}
use Rattle.intent_slots.specs.Recovered.{Stands, part_of}
use Rattle.recovery.specs.Opening.{Untouched}
use Rattle.flusher.specs.Round.{FrontStays}
use Rattle.flusher.specs.SlotInvariant.{sequence_of_part}
use Rattle.board.specs.Opening.{bases_of}
use Rattle.workers.specs.Keeping.{AreNext, after_all}
use Rattle.commands.specs.Image.{AreOf}
use Rattle.commands.specs.declared.fault.Fault.{Fault}
use Rattle.commands.specs.declared.fault.Fault.TheVariants as fault

-- A content holds the guest's partition after so many of its intents, each whole and one after
-- another; none of a lower sequence than it had.
pub record HoldsSome (board : List GuestConfig) (partitions : List Partition) (g : ℕ)
    (given : List Intent) (c : Content) : Type 0 where
  pub count : ℕ
  pub within : count ≤ length given
  pub stands : Stands (region_at (capacities_of board) g) c
      (after_all (part_of (bases_of partitions g)) (take count given))
  pub enough : sequence (bases_of partitions g)
      ≤ sequence_of_part (after_all (part_of (bases_of partitions g)) (take count given))

-- Whatever a stop leaves holds such a partition of each guest.
abbrev pub LeavesSome : List GuestConfig → List Partition → (ℕ → List Intent) → DiskState → Type 0
LeavesSome board partitions given s = (g : ℕ) → g < length board → (c : Content) → MayLeave s c
    → HoldsSome board partitions g (given g) c

-- and once all is kept, each guest's after all its intents
abbrev pub LeavesAll : List GuestConfig → List Partition → (ℕ → List Intent) → DiskState → Type 0
LeavesAll board partitions given s = (g : ℕ) → g < length board → (c : Content) → MayLeave s c
    → Stands (region_at (capacities_of board) g) c
    (after_all (part_of (bases_of partitions g)) (given g))

-- One list of intents a guest, for the whole serve: each is that guest's and comes next after those
-- before it, under the partition's key and within its blocks. At each moment every stop leaves the
-- partitions after a front of their lists; without a failed call, after all of them at the end.
pub record ServesPartitions {D : Type 0} (shows : D → DiskState) (makes : D → DiskCall → D → Type 0)
    (board : List GuestConfig) (partitions : List Partition) (failed : Bool)
    (opened back : D) : Type 0 where
  pub given : ℕ → List Intent
  pub in_turn : (g : ℕ) → g < length board → AreNext g (region_at (capacities_of board) g).size
      (part_of (bases_of partitions g)) (given g)
  pub moments : Within shows makes (LeavesSome board partitions given) opened back
  pub rests : failed ≡ false → LeavesAll board partitions given (shows back)

-- The image was opened, which left it as it was, and then the flusher alone made calls of the disk:
-- its length and header stay, and at each moment every stop leaves partitions as above.
pub record ServesImage {D : Type 0} (shows : D → DiskState) (makes : D → DiskCall → D → Type 0)
    (board : List GuestConfig) (disk : D) (failed : Bool) (back : D) : Type 0 where
  pub partitions : List Partition
  pub of_image : AreOf board (shows disk) partitions
  pub opened : D
  pub untouched : Within shows makes (Untouched (shows disk)) disk opened
  pub len : (shows back).len ≡ (shows disk).len
  pub faithful : (shows back).faithful ≡ (shows disk).faithful
  pub front : (shows disk).faithful ≡ true
      → Within shows makes (FrontStays (shows opened)) opened back
  pub serves : (shows disk).faithful ≡ true
      → ServesPartitions shows makes board partitions failed opened back
  pub cause : failed ≡ true → HasRisen (shows disk).failures (shows back).failures

-- whether a call of the disk has failed where that is the fault
abbrev pub TellsFailed : Fault → Bool → Type 0
TellsFailed f failed = f ≡ fault.DiskFault → failed ≡ true

-- The image wasn't opened, and is as it was; where that was for a call of the disk, one has failed.
pub record IsUnserved {D : Type 0} (shows : D → DiskState) (makes : D → DiskCall → D → Type 0)
    (disk : D) (f : Fault) (back : D) : Type 0 where
  pub untouched : Within shows makes (Untouched (shows disk)) disk back
  pub cause : f ≡ fault.DiskFault → HasRisen (shows disk).failures (shows back).failures

-- What a serve that ended so leaves of the image, where its disk comes back: the image wasn't
-- opened, or it was and guests were served.
abbrev pub ServeMoments : {D : Type 0} → (D → DiskState) → (D → DiskCall → D → Type 0)
    → List GuestConfig → D → Fault → D → Type 0
ServeMoments shows makes board disk f back = IsUnserved shows makes disk f back
    ⊎ ((failed : Bool) × TellsFailed f failed × ServesImage shows makes board disk failed back)

-- and one that ended either way
abbrev pub ServeKeeps : {D : Type 0} → (D → DiskState) → (D → DiskCall → D → Type 0)
    → List GuestConfig → D → Result (Unit {0}) Fault → Option D → Type 0
ServeKeeps shows makes board disk (Ok done) back =
    IfSome back (ServesImage shows makes board disk false)
ServeKeeps shows makes board disk (Err f) back = IfSome back (ServeMoments shows makes board disk f)
