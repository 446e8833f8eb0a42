-- The one call that an advance makes (own).
use Rattle.std.specs.Prelude.{◌≡◌, ◌⊎◌, ◌<◌, ◌≤◌, ℕ, Bool, true, false, List, length, map}
use Rattle.std.specs.Prelude.{slice_get}
use Rattle.std.specs.Prelude.{slice_set, Option, Some, None, Result, Ok, Err, position}
use Rattle.std.specs.Prelude.{if◌then◌else◌}
use Rattle.std.specs.List.{list_any}
use Rattle.disk.specs.Disk.{DiskState, DiskCall, Write, Sync}
use Rattle.flusher.specs.declared.guest.Guest.{Guest}
use Rattle.flusher.specs.declared.plan.Plan.{Plan}
use Rattle.flusher.specs.declared.plan.Plan.TheVariants.{WriteOf, SyncAll, Nothing}
use Rattle.flusher.specs.declared.progress.Call.{Call}
use Rattle.flusher.specs.declared.progress.Call.TheVariants as call
use Rattle.flusher.specs.declared.progress.StoreFault.{StoreFault}
use Rattle.flusher.specs.declared.progress.StoreFault.TheVariants.{DiskFault}
use Rattle.intent_slots.specs.Recovered.{Part}
use Rattle.flusher.specs.Slot.{is_empty}
use Rattle.flusher.specs.Pair.{guest_write, guest_has_write, guest_awaits, guest_after_write}
use Rattle.flusher.specs.Pair.{guest_after_sync}
use Rattle.flusher.specs.SlotInvariant.{guest_settled, settled_by}
use Rattle.flusher.specs.Marks.{marks_of}
use Rattle.flusher.specs.Progress.{Progress, Wrote, Synced, Idle}

-- 1. Which call

abbrev pub plan_at : Option ℕ → Bool → Plan
plan_at (Some g) waits = WriteOf g
plan_at None true = SyncAll
plan_at None false = Nothing

-- The write of the lowest-numbered guest that has one; else a sync, where a slot awaits one; else
-- none.
abbrev pub planned : List Guest → Plan
planned guests = plan_at (position guest_has_write guests) (list_any guest_awaits guests)

-- nothing is given, and each slot is empty
abbrev pub AllEmpty : List Guest → Type 0
AllEmpty guests = (g : ℕ) (x : Guest) → slice_get guests g ≡ Some x
    → (is_empty x.slot ≡ true) × (is_empty x.behind ≡ true)

abbrev pub call_of : Plan → Call
call_of (WriteOf g) = call.Write
call_of SyncAll = call.Sync
call_of Nothing = call.None

-- 2. The call, on which disk, and how it moves the slots

-- the call ended well, or it failed and the store is broken from then on
abbrev pub Ends : Bool → Progress → Result Progress StoreFault → Bool → Type 0
Ends true progress result broken = (result ≡ Ok progress) × (broken ≡ false)
Ends false progress result broken = (result ≡ Err DiskFault) × (broken ≡ true)

-- the slot's next write was made, and moved the slot however it ended
pub record WroteSlot {D : Type 0} (makes : D → DiskCall → D → Type 0) (g : ℕ) (old_disk : D)
    (old : List Guest) (ok : Bool) (new_disk : D) (new : List Guest) : Type 0 where
  pub guest : Guest
  pub is : slice_get old g ≡ Some guest
  pub at : ℕ
  pub bytes : List ℕ
  pub next : guest_write guest ≡ Some (at, bytes)
  -- no write is larger than the largest payload
  pub few : length bytes ≤ 16648
  pub call : makes old_disk (Write at bytes ok) new_disk
  pub slots : new ≡ slice_set old g (guest_after_write guest)

-- a sync was made, and moved every slot where it succeeded
pub record SyncedAll {D : Type 0} (makes : D → DiskCall → D → Type 0) (old_disk : D)
    (old : List Guest) (ok : Bool) (new_disk : D) (new : List Guest) : Type 0 where
  pub call : makes old_disk (Sync ok) new_disk
  pub slots : new ≡ (if ok then map guest_after_sync old else old)

pub record WriteRound {D : Type 0} (makes : D → DiskCall → D → Type 0) (g : ℕ) (old_disk : D)
    (old : List Guest) (result : Result Progress StoreFault) (new_disk : D) (new : List Guest)
    (broken : Bool) : Type 0 where
  pub ok : Bool
  pub wrote : WroteSlot makes g old_disk old ok new_disk new
  pub ends : Ends ok Wrote result broken

pub record SyncRound {D : Type 0} (makes : D → DiskCall → D → Type 0) (old_disk : D)
    (old : List Guest) (result : Result Progress StoreFault) (new_disk : D) (new : List Guest)
    (broken : Bool) : Type 0 where
  pub ok : Bool
  pub synced : SyncedAll makes old_disk old ok new_disk new
  pub ends : Ends ok (Synced (marks_of new)) result broken

-- what an advance of a store that isn't broken does
abbrev pub Round : {D : Type 0} → (D → DiskCall → D → Type 0) → Plan → D → List Guest
    → Result Progress StoreFault → D → List Guest → Bool → Type 0
Round makes (WriteOf g) old_disk old result new_disk new broken =
    WriteRound makes g old_disk old result new_disk new broken
Round makes SyncAll old_disk old result new_disk new broken =
    SyncRound makes old_disk old result new_disk new broken
Round makes Nothing old_disk old result new_disk new broken =
    (result ≡ Ok Idle) × (new_disk ≡ old_disk) × (new ≡ old) × (broken ≡ false)

abbrev pub settles : Result Progress StoreFault → Bool
settles (Ok Wrote) = false
settles (Ok (Synced marks)) = true
settles (Ok Idle) = false
settles (Err e) = false

-- the settled partitions after an advance
abbrev pub parts_after : Result Progress StoreFault → List Guest → (ℕ → Part) → ℕ → Part
parts_after result guests parts g =
    if settles result then settled_by guest_settled (slice_get guests g) (parts g) else parts g

-- 3. What a caller sees of it, guest by guest

-- a sync that succeeded moved the guest; else nothing did, or its write
abbrev pub MovedBy : Bool → Guest → Guest → Type 0
MovedBy true old new = new ≡ guest_after_sync old
MovedBy false old new = (new ≡ old) ⊎ (new ≡ guest_after_write old)

-- What an advance that ended so made of the guests.
pub record Moves (result : Result Progress StoreFault) (old new : List Guest) : Type 0 where
  pub count : length new ≡ length old
  pub each : (g : ℕ) (x y : Guest) → slice_get old g ≡ Some x → slice_get new g ≡ Some y
      → MovedBy (settles result) x y
  pub idle : result ≡ Ok Idle → new ≡ old
  pub marks : (told : List ℕ) → result ≡ Ok (Synced told) → told ≡ marks_of new

-- 4. While it is under way

abbrev pub written_at : List Guest → ℕ → Option Guest → List Guest
written_at guests g None = guests
written_at guests g (Some x) = slice_set guests g (guest_after_write x)

abbrev pub under_way_by : Plan → List Guest → List Guest
under_way_by (WriteOf g) guests = written_at guests g (slice_get guests g)
under_way_by SyncAll guests = guests
under_way_by Nothing guests = guests

-- the guests while the call is under way: a write has moved its slot, a sync none yet
unfoldable pub under_way : List Guest → List Guest
under_way guests = under_way_by (planned guests) guests

-- The header is as it was: reads give the same there, and a stop leaves nothing more.
abbrev pub FrontStays : DiskState → DiskState → Type 0
FrontStays old new = (k : ℕ) → k < 1024 → (new.seen k ≡ old.seen k)
    × (old.unsynced k ≡ false → new.unsynced k ≡ false)
