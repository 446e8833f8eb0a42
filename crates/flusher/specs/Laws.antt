-- What follows of the store's definitions.
use Rattle.std.specs.Prelude.{◌≡◌, ◌⊎◌, ◌↔◌, ◌<◌, ◌+◌, ℕ, Bool, true, List, [], ◌∷◌, ◌++◌, length}
use Rattle.std.specs.Prelude.{Option, Some, None, Result, slice_get}
use Rattle.disk.specs.Disk.{DiskState, DiskCall}
use Rattle.intent_slots.specs.Payload.{Group, Intent}
use Rattle.intent_slots.specs.Recovered.{Part}
use Rattle.flusher.specs.declared.guest.Guest.{Guest}
use Rattle.flusher.specs.declared.plan.Plan.TheVariants.{Nothing}
use Rattle.flusher.specs.Progress.{Progress}
use Rattle.flusher.specs.declared.progress.StoreFault.{StoreFault}
use Rattle.flusher.specs.Round.{planned, AllEmpty, Round, under_way}
use Rattle.flusher.specs.Pair.{guest_after_write, guest_after_sync, with_intent, has_room}
use Rattle.flusher.specs.Pair.{pending_intents, mark_of, mark_after, opening_of}
use Rattle.flusher.specs.SlotInvariant.{Besides, IsHeld, EachStop}
use Rattle.flusher.specs.Store.{given}
use Rattle.flusher.specs.CallsLeft.{left_of, called}

-- where each guest's settled partition is held, every stop leaves it, or in Opening it with its
-- intent
abbrev pub HeldIsLeft : Type 0
HeldIsLeft = (parts : ℕ → Part) (guests : List Guest) (broken : Bool) (s : DiskState)
    → IsHeld parts guests broken s → EachStop parts guests s

-- no call comes next exactly where all slots are empty and nothing is given
abbrev pub NothingIsEmpty : Type 0
NothingIsEmpty = (guests : List Guest) → planned guests ≡ Nothing ↔ AllEmpty guests

-- a guest while a call is under way: as it was, or after its write
pub record IsUnderWay (guests : List Guest) (g : ℕ) (y : Guest) : Type 0 where
  pub was : Guest
  pub at : slice_get guests g ≡ Some was
  pub moved : (y ≡ was) ⊎ (y ≡ guest_after_write was)

abbrev pub UnderWayGoesByGuest : Type 0
UnderWayGoesByGuest = (guests : List Guest) (g : ℕ) (y : Guest)
    → slice_get (under_way guests) g ≡ Some y → IsUnderWay guests g y

-- each call that succeeds leaves fewer calls, on a disk of any kind
abbrev pub CallsLower : {D : Type 0} → (D → DiskCall → D → Type 0) → Type 0
CallsLower {D = D} makes = (old_disk : D) (old : List Guest) (result : Result Progress StoreFault)
    (new_disk : D) (new : List Guest) (broken : Bool)
    → Round makes (planned old) old_disk old result new_disk new broken → called result ≡ true
    → left_of new < left_of old

-- an intent that is given to a guest with room adds a call for each entry, and eight
abbrev pub GivenAdds : Type 0
GivenAdds = (guests : List Guest) (i : Intent) (x : Guest) → slice_get guests i.guest ≡ Some x
    → has_room x ≡ true
    → left_of (given guests i) ≡ left_of guests + (length i.group.entries + 8)

-- no call is left exactly where all slots are empty and nothing is given
abbrev pub NoneLeftIsEmpty : Type 0
NoneLeftIsEmpty = (guests : List Guest) → left_of guests ≡ 0 ↔ AllEmpty guests

-- What isn't settled of a guest, over its calls: a write leaves it and the mark;
abbrev pub PendingStays : Type 0
PendingStays = (x : Guest)
    → (pending_intents (guest_after_write x) ≡ pending_intents x)
    × (mark_of (guest_after_write x) ≡ mark_of x)

-- an intent that is given comes last;
abbrev pub PendingGrows : Type 0
PendingGrows = (x : Guest) (i : Intent) → has_room x ≡ true → Besides x.slot x.behind
    → (pending_intents (with_intent x i) ≡ pending_intents x ++ i ∷ [])
    × (mark_of (with_intent x i) ≡ mark_of x)

-- and a sync settles none of it, or the first of it, whose group is the one in Opening.
abbrev pub Settles : Option Group → List Intent → List Intent → Type 0
Settles None before after = after ≡ before
Settles (Some g) before after = (i : Intent) × (before ≡ i ∷ after) × (i.group ≡ g)

abbrev pub PendingSettles : Type 0
PendingSettles = (x : Guest) → Besides x.slot x.behind
    → Settles (opening_of x) (pending_intents x) (pending_intents (guest_after_sync x))
    × (mark_of (guest_after_sync x) ≡ mark_after (opening_of x) (mark_of x))
