-- What an opening answers, and what it leaves as it was (own).
use Rattle.std.specs.Prelude.{◌≡◌, ℕ, ◌≤◌, ◌<◌, ◌^◌, true, false, List, length, map, slice_get}
use Rattle.std.specs.Prelude.{slice_index, Option, Some, None, Result, Ok, Err}
use Rattle.rpmb_frame.specs.Partition.{Partition, sequence_of}
use Rattle.disk.specs.Content.{Content, zeros}
use Rattle.disk.specs.Disk.{DiskState, DiskCall, Sync, MayLeave}
use Rattle.intent_slots.specs.Header.{HasMagic, HasCapacities}
use Rattle.intent_slots.specs.Layout.{region_at, image_length}
use Rattle.intent_slots.specs.declared.layout.Side.TheVariants.{A}
use Rattle.intent_slots.specs.Payload.{Intent}
use Rattle.intent_slots.specs.Recovered.{Part, part_of, Stands}
use Rattle.flusher.specs.declared.phase.Phase.TheVariants.{Open}
use Rattle.flusher.specs.declared.slot.Slot.{Slot}
use Rattle.flusher.specs.declared.guest.Guest.{Guest}
use Rattle.flusher.specs.Phase.{skipped}
use Rattle.flusher.specs.Slot.{intent_of}
use Rattle.flusher.specs.Pair.{region_of, mark_of}
use Rattle.flusher.specs.SlotInvariant.{IsHeld, IsOrdered}
use Rattle.flusher.specs.Marks.{marks_of}
use Rattle.flusher.specs.Store.{AllFit, IntentFits, IsOf, OnlyReads, StoreState}
use Rattle.recovery.specs.declared.fault.OpenFault.{OpenFault}
use Rattle.recovery.specs.declared.fault.OpenFault.TheVariants as fault

-- Reads give the same, and a stop leaves nothing that it could not leave before.
pub record Untouched (old new : DiskState) : Type 0 where
  pub len : new.len ≡ old.len
  pub faithful : new.faithful ≡ old.faithful
  pub later : old.failures ≤ new.failures
  pub seen : old.faithful ≡ true → (k : ℕ) → new.seen k ≡ old.seen k
  pub unsynced : old.faithful ≡ true → (k : ℕ) → old.unsynced k ≡ false → new.unsynced k ≡ false

-- The first call was a sync. Only where it succeeded further calls were made, all of them reads.
pub data SyncsFirst {D : Type 0} (makes : D → DiskCall → D → Type 0) (old new : D) : Type 0 where
  SyncFailed : makes old (Sync false) new → SyncsFirst makes old new
  SyncWent : (synced : D) → makes old (Sync true) synced → OnlyReads makes synced new
      → SyncsFirst makes old new

-- 1. What a content is

-- an image of some board begins there
pub record HasFront (len : ℕ) (c : Content) : Type 0 where
  pub long : 1024 ≤ len
  pub magic : HasMagic c

-- the content stands for some partition of guest g
pub record HasPart (capacities : List ℕ) (c : Content) (g : ℕ) : Type 0 where
  pub part : Part
  pub stands : Stands (region_at capacities g) c part

-- the content stands for some partition of each guest
abbrev pub HoldsEach : List ℕ → Content → Type 0
HoldsEach capacities c = (g : ℕ) → g < length capacities → HasPart capacities c g

-- the image is as long as its header says, and stands for a partition of each guest
pub record HasParts (capacities : List ℕ) (len : ℕ) (c : Content) : Type 0 where
  pub long : len ≡ image_length capacities
  pub each : HoldsEach capacities c

-- an image of a board of these capacities
pub record IsImage (capacities : List ℕ) (len : ℕ) (c : Content) : Type 0 where
  pub front : HasFront len c
  pub header : HasCapacities capacities c
  pub parts : HasParts capacities len c

-- An image of another board: the number of guests or a capacity differs.
pub record IsOther (capacities : List ℕ) (len : ℕ) (c : Content) : Type 0 where
  pub front : HasFront len c
  pub other : ¬ HasCapacities capacities c

-- no image; or this board's, of another length, or with a partition that isn't well formed
pub data IsUnformatted (capacities : List ℕ) (len : ℕ) (c : Content) : Type 0 where
  NoFront : ¬ HasFront len c → IsUnformatted capacities len c
  NoParts : HasFront len c → HasCapacities capacities c → ¬ HasParts capacities len c
      → IsUnformatted capacities len c

abbrev pub AnswersFault : List ℕ → ℕ → Content → OpenFault → Type 0
AnswersFault capacities len c fault.NotFormatted = IsUnformatted capacities len c
AnswersFault capacities len c fault.OtherConfig = IsOther capacities len c
AnswersFault capacities len c fault.DiskFault = Unit {0}
AnswersFault capacities len c fault.NoMemory = Unit {0}

-- Which content leads to which outcome: no content is two of image, other board's image and no
-- image.
abbrev pub Answers : {X : Type 0} → List ℕ → ℕ → Content → Result X OpenFault → Type 0
Answers capacities len c (Ok opened) = IsImage capacities len c
Answers capacities len c (Err f) = AnswersFault capacities len c f

-- 2. What is opened

-- A slot as an opening leaves it: empty, or Open with no write done.
abbrev pub IsFirst : Option Slot → Type 0
IsFirst None = Unit {0}
IsFirst (Some s) = s.phase ≡ Open (skipped s.intent.group.entries)

-- an intent in a slot has the partition's key
abbrev pub HasKey : Option (List ℕ) → Option Intent → Type 0
HasKey key None = Unit {0}
HasKey key (Some i) = key ≡ Some i.group.key

-- A guest as an opening leaves it, with its partition: all of it is settled.
pub record IsBegun (capacities : List ℕ) (g : ℕ) (x : Guest) (p : Partition) : Type 0 where
  pub region : region_of x ≡ region_at capacities g
  pub capacity : p.capacity ≡ slice_index capacities g
  pub mark : mark_of x ≡ sequence_of p.key p.counter
  pub small : mark_of x ≤ 2 ^ 32
  pub slot : IsFirst x.slot
  -- both slots are empty: the next intent goes to slot A
  pub side : x.slot ≡ None → x.side ≡ A
  pub behind : IsFirst x.behind
  pub number : IsOf g (intent_of x.slot)
  pub number_behind : IsOf g (intent_of x.behind)
  pub fits : IntentFits (region_of x).size (intent_of x.slot)
  pub fits_behind : IntentFits (region_of x).size (intent_of x.behind)
  pub key : HasKey p.key (intent_of x.slot)
  pub key_behind : HasKey p.key (intent_of x.behind)
  pub ordered : IsOrdered x

abbrev pub EachBegun : List ℕ → List Guest → List Partition → Type 0
EachBegun capacities guests partitions = (g : ℕ) (x : Guest) (p : Partition)
    → slice_get guests g ≡ Some x → slice_get partitions g ≡ Some p → IsBegun capacities g x p

-- each guest of the board in its region
pub record AllBegun (capacities : List ℕ) (guests : List Guest)
    (partitions : List Partition) : Type 0 where
  pub all_guests : length guests ≡ length capacities
  pub all_partitions : length partitions ≡ length capacities
  pub each : EachBegun capacities guests partitions

-- each partition is what the content stands for
abbrev pub AllStand : Content → List Guest → List Partition → Type 0
AllStand c guests partitions = (g : ℕ) (x : Guest) (p : Partition) → slice_get guests g ≡ Some x
    → slice_get partitions g ≡ Some p
    → Stands (region_of x) c (part_of p)

-- the partitions' sequences
abbrev pub sequences_of : List Partition → List ℕ
sequences_of partitions = map (λ p. sequence_of p.key p.counter) partitions

-- nothing is unsynced, and every stop leaves an image of the board
pub record IsAtRest (capacities : List ℕ) (s : DiskState) : Type 0 where
  pub synced : (k : ℕ) → s.unsynced k ≡ false
  pub image : (c : Content) → MayLeave s c → IsImage capacities s.len c

abbrev pub no_part : Part
no_part = record { key = None; counter = 0; blocks = zeros }

abbrev pub part_or : Option Partition → Part
part_or None = no_part
part_or (Some p) = part_of p

-- the partitions by guest
abbrev pub parts_of : List Partition → ℕ → Part
parts_of partitions g = part_or (slice_get partitions g)

-- What an opening that succeeded gives, where the disk was old before it. Where that is known to be
-- faithful, each partition is what reads gave, nothing is unsynced, and every stop leaves an image
-- of the board, which stands for these partitions.
pub record Opened {D : Type 0} (state : D → DiskState) (capacities : List ℕ) (old : DiskState)
    (store : StoreState D) (partitions : List Partition) : Type 0 where
  pub begun : AllBegun capacities store.guests partitions
  pub unbroken : store.broken ≡ false
  pub marks : marks_of store.guests ≡ sequences_of partitions
  pub fits : AllFit (state store.disk).len store.guests
  pub stand : old.faithful ≡ true → AllStand old.seen store.guests partitions
  pub rest : old.faithful ≡ true → IsAtRest capacities (state store.disk)
  pub held : old.faithful ≡ true
      → IsHeld (parts_of partitions) store.guests store.broken (state store.disk)

-- 3. The exits of an opening

-- the disk after an opening, however it ends
abbrev pub disk_after : {D P : Type 0} → Result (StoreState D × P) (D × OpenFault) → D
disk_after (Ok opened) = opened.0.disk
disk_after (Err refused) = refused.0

-- The calls of an opening. Without memory it makes none.
abbrev pub CallsFault : {D : Type 0} → (makes : D → DiskCall → D → Type 0) → D → D → OpenFault
    → Type 0
CallsFault makes old new fault.NoMemory = new ≡ old
CallsFault makes old new fault.DiskFault = SyncsFirst makes old new
CallsFault makes old new fault.NotFormatted = SyncsFirst makes old new
CallsFault makes old new fault.OtherConfig = SyncsFirst makes old new

abbrev pub Calls : {D P : Type 0} → (makes : D → DiskCall → D → Type 0) → D
    → Result (StoreState D × P) (D × OpenFault) → Type 0
Calls makes old (Ok opened) = SyncsFirst makes old opened.0.disk
Calls makes old (Err refused) = CallsFault makes old refused.0 refused.1

-- how it ended
abbrev pub outcome_of : {D P : Type 0} → Result (StoreState D × P) (D × OpenFault)
    → Result (StoreState D × P) OpenFault
outcome_of (Ok opened) = Ok opened
outcome_of (Err refused) = Err refused.1
