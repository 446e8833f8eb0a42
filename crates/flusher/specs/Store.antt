-- The store of all guests (own).
use Rattle.std.specs.Prelude.{◌≡◌, ◌≢◌, ℕ, ◌+◌, ◌^◌, ◌≤◌, Bool, true, false, List, length}
use Rattle.std.specs.Prelude.{slice_get, slice_set, Option, Some, None, Result, Ok, Err, is_err}
use Rattle.std.specs.Prelude.{◌↔◌}
use Rattle.disk.specs.Disk.{DiskState, DiskCall, Read, Sync, HasRisen}
use Rattle.intent_slots.specs.Layout.{end_of}
use Rattle.intent_slots.specs.Payload.{Intent, GroupFits}
use Rattle.intent_slots.specs.Recovered.{Part}
use Rattle.flusher.specs.declared.progress.Call.{Call}
use Rattle.flusher.specs.declared.progress.Call.TheVariants as call
use Rattle.flusher.specs.declared.progress.Made.{Made}
use Rattle.flusher.specs.declared.progress.Made.TheVariants as made
use Rattle.flusher.specs.declared.progress.StoreFault.{StoreFault}
use Rattle.flusher.specs.declared.progress.StoreFault.TheVariants.{DiskFault, Broken}
use Rattle.flusher.specs.Round.{planned, call_of, AllEmpty}
use Rattle.flusher.specs.declared.guest.Guest.{Guest}
use Rattle.flusher.specs.Slot.{intent_of, pending_of}
use Rattle.flusher.specs.Pair.{has_room, entries_in, region_of, with_intent}
use Rattle.flusher.specs.SlotInvariant.{Besides, IsHeld}
use Rattle.flusher.specs.Marks.{marks_of}

-- what contracts see of a store
pub record StoreState (D : Type 0) : Type 0 where
  pub disk : D
  pub guests : List Guest
  -- a call has failed
  pub broken : Bool

-- 1. What holds of every store

-- each block of the intent that is given or in the slot lies in the partition
abbrev pub IntentFits : ℕ → Option Intent → Type 0
IntentFits size None = Unit {0}
IntentFits size (Some i) = GroupFits size i.group

-- an intent is of the slot's guest
abbrev pub IsOf : ℕ → Option Intent → Type 0
IsOf g None = Unit {0}
IsOf g (Some i) = i.guest ≡ g

-- Guest g: its partition lies behind the header on a disk of so many bytes, its mark is a sequence
-- of a 32-bit counter, and its second slot is as far as the first one lets it be.
pub record GuestFits (len g : ℕ) (x : Guest) : Type 0 where
  pub behind : 1024 ≤ (region_of x).base
  pub room : end_of (region_of x) ≤ len
  pub slot_fits : IntentFits (region_of x).size (intent_of x.slot)
  pub behind_fits : IntentFits (region_of x).size (intent_of x.behind)
  pub own : IsOf g (intent_of x.slot)
  pub behind_own : IsOf g (intent_of x.behind)
  pub mark : x.mark ≤ 2 ^ 32
  pub besides : Besides x.slot x.behind

pub record AllFit (len : ℕ) (guests : List Guest) : Type 0 where
  pub each : (g : ℕ) (x : Guest) → slice_get guests g ≡ Some x → GuestFits len g x

-- 2. How a store begins

-- Reads alone led from one value of the disk to the other.
pub data OnlyReads {D : Type 0} (makes : D → DiskCall → D → Type 0) : D → D → Type 0 where
  NoRead : (d : D) → OnlyReads makes d d
  OneRead : (a b c : D) (ok : Bool) → OnlyReads makes a b → makes b (Read ok) c
      → OnlyReads makes a c

-- A sync has succeeded, and since then the disk was only read.
pub record IsSynced {D : Type 0} (makes : D → DiskCall → D → Type 0) (disk : D) : Type 0 where
  pub before : D
  pub after : D
  pub sync : makes before (Sync true) after
  pub reads : OnlyReads makes after disk

-- every stop leaves some settled partitions, and the marks are their sequences
pub record HoldsSome (guests : List Guest) (s : DiskState) : Type 0 where
  pub parts : ℕ → Part
  pub held : IsHeld parts guests false s

-- What an opening has shown of the guests of a disk: their marks were made by a sync.
pub record IsOpened {D : Type 0} (state : D → DiskState) (makes : D → DiskCall → D → Type 0)
    (guests : List Guest) (disk : D) : Type 0 where
  pub synced : IsSynced makes disk
  pub holds : (state disk).faithful ≡ true → HoldsSome guests (state disk)

-- 3. What the calls answer

abbrev pub is_free_of : Option Guest → Bool
is_free_of None = false
is_free_of (Some x) = has_room x

-- a guest of the store may be given an intent
unfoldable pub is_free : List Guest → ℕ → Bool
is_free guests g = is_free_of (slice_get guests g)

-- how many requests were given that aren't settled yet
abbrev pub pending : Guest → ℕ
pending x = length (entries_in (pending_of x.slot)) + length (entries_in (pending_of x.behind))

abbrev pub next_of : Option Guest → ℕ
next_of None = 0
next_of (Some x) = x.mark + pending x + 1

-- the sequence that comes next: one more than the last that was given, or else settled
unfoldable pub next_sequence : List Guest → ℕ → ℕ
next_sequence guests g = next_of (slice_get guests g)

-- the key of an intent is that of the intent given or in the slot, where there is one
abbrev pub HasSameKey : Option Intent → Intent → Type 0
HasSameKey None i = Unit {0}
HasSameKey (Some j) i = i.group.key ≡ j.group.key

-- an intent that the guest's partition may become
pub record FitsGuest (x : Guest) (i : Intent) : Type 0 where
  pub inside : GroupFits (region_of x).size i.group
  pub key : HasSameKey (intent_of x.slot) i
  pub key_behind : HasSameKey (intent_of x.behind) i

abbrev pub FitsOf : Option Guest → Intent → Type 0
FitsOf None i = ⊥
FitsOf (Some x) i = FitsGuest x i

-- the store has the intent's guest, and the intent fits it
abbrev pub Fits : List Guest → Intent → Type 0
Fits guests i = FitsOf (slice_get guests i.guest) i

abbrev pub given_of : List Guest → Intent → Option Guest → List Guest
given_of guests i None = guests
given_of guests i (Some x) = slice_set guests i.guest (with_intent x i)

-- the guests with an intent given
unfoldable pub given : List Guest → Intent → List Guest
given guests i = given_of guests i (slice_get guests i.guest)

-- an intent may be given: a slot of its guest is free, it fits, and its first request comes next
pub record MayGive (guests : List Guest) (i : Intent) : Type 0 where
  pub free : is_free guests i.guest ≡ true
  pub fits : Fits guests i
  pub next : i.group.first + 1 ≡ next_sequence guests i.guest

-- What giving an intent makes of the guests: it is in a slot of its guest, and nothing else has
-- changed.
pub record Gives (i : Intent) (old new : List Guest) : Type 0 where
  pub count : length new ≡ length old
  pub its_own : (x : Guest) → slice_get old i.guest ≡ Some x
      → slice_get new i.guest ≡ Some (with_intent x i)
  pub others : (g : ℕ) → g ≢ i.guest → slice_get new g ≡ slice_get old g
  pub marks : marks_of new ≡ marks_of old

-- the call that an advance of the store would make
abbrev pub next_call : Bool → List Guest → Call
next_call true guests = call.None
next_call false guests = call_of (planned guests)

-- When an advance of the store comes to each answer, and which of them leaves it broken.
pub record Answers {D : Type 0} (state : D → DiskState) (result : Result Made StoreFault)
    (old new : StoreState D) : Type 0 where
  pub refused : old.broken ≡ true → (result ≡ Err Broken) × (new ≡ old)
  pub idle : result ≡ Ok made.Idle ↔ (old.broken ≡ false) × AllEmpty old.guests
  pub cause : result ≡ Err DiskFault → HasRisen (state old.disk).failures (state new.disk).failures
  pub breaks : new.broken ≡ is_err result
