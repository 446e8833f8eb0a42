-- A guest's two slots (own).
use Rattle.std.specs.Prelude.{ℕ, ◌+◌, Bool, true, false, ◌||◌, ◌&&◌, List, [], ◌∷◌, ◌++◌}
use Rattle.std.specs.Prelude.{if◌then◌else◌, Option, Some, None}
use Rattle.intent_slots.specs.Layout.{Region, SlotRegion, slot_region, other_side}
use Rattle.intent_slots.specs.declared.layout.Side.{Side}
use Rattle.intent_slots.specs.declared.layout.Side.TheVariants.{A}
use Rattle.intent_slots.specs.Payload.{Group, Entry, Intent, last_of}
use Rattle.flusher.specs.declared.phase.Phase.{Phase}
use Rattle.flusher.specs.declared.phase.Phase.TheVariants.{Given, Written, Ready, Opening, Open}
use Rattle.flusher.specs.declared.phase.Phase.TheVariants.{Applying, Applied, Closing}
use Rattle.flusher.specs.declared.slot.Slot.{Slot}
use Rattle.flusher.specs.declared.guest.Guest.{Guest}
use Rattle.flusher.specs.declared.guest.Turn.{Turn}
use Rattle.flusher.specs.declared.guest.Turn.TheVariants.{First, Second, Neither}
use Rattle.flusher.specs.Phase.{has_write, skipped, is_closing}
use Rattle.flusher.specs.Slot.{is_empty, pending_of, slot_writes, slot_awaits, slot_write}
use Rattle.flusher.specs.Slot.{after_write, after_sync, opening_in, spelled}

-- A guest: its partition's region, its mark, and its slots. `slot` has the lower sequence, at
-- `side`; `behind` is the other one, which is in use only beside it, and in version 1 never.

abbrev pub region_of : Guest → Region
region_of x = x.extent

abbrev pub side_of : Guest → SlotRegion
side_of x = slot_region x.extent x.side

-- where the other slot's gate and payload stand
abbrev pub side_behind : Guest → SlotRegion
side_behind x = slot_region x.extent (other_side x.side)

-- the sequence up to which its requests are settled
abbrev pub mark_of : Guest → ℕ
mark_of x = x.mark

abbrev pub entries_in : Option Intent → List Entry
entries_in None = []
entries_in (Some i) = i.group.entries

abbrev pub listed : Option Intent → List Intent
listed None = []
listed (Some i) = i ∷ []

-- the intents that aren't settled yet, in order: at most two
abbrev pub pending_intents : Guest → List Intent
pending_intents x = listed (pending_of x.slot) ++ listed (pending_of x.behind)

-- What the slot behind may write: its payload at any time; its gate opens once the first one's is
-- written shut; all else waits until the first is empty.
abbrev pub is_let_beside : Phase → Phase → Bool
is_let_beside first Given = true
is_let_beside first Written = false
is_let_beside first Ready = is_closing first
is_let_beside first Opening = false
is_let_beside first (Open k) = false
is_let_beside first Applying = false
is_let_beside first Applied = false
is_let_beside first Closing = false

abbrev pub is_let : Option Slot → Phase → Bool
is_let None phase = true
is_let (Some first) phase = is_let_beside first.phase phase

abbrev pub behind_writes : Option Slot → Option Slot → Bool
behind_writes first None = false
behind_writes first (Some s) = has_write s.phase && is_let first s.phase

-- the slot of lower sequence has its write first
abbrev pub turn_by : Bool → Bool → Turn
turn_by true behind = First
turn_by false true = Second
turn_by false false = Neither

abbrev pub turn_of : Guest → Turn
turn_of x = turn_by (slot_writes x.slot) (behind_writes x.slot x.behind)

abbrev pub has_turn : Turn → Bool
has_turn First = true
has_turn Second = true
has_turn Neither = false

abbrev pub guest_has_write : Guest → Bool
guest_has_write x = has_turn (turn_of x)

-- a sync moves one of its slots
abbrev pub guest_awaits : Guest → Bool
guest_awaits x = slot_awaits x.slot || slot_awaits x.behind

abbrev pub write_in : Turn → Guest → Option (ℕ × List ℕ)
write_in First x = spelled (region_of x) (side_of x) (slot_write x.slot)
write_in Second x = spelled (region_of x) (side_behind x) (slot_write x.behind)
write_in Neither x = None

abbrev pub guest_write : Guest → Option (ℕ × List ℕ)
guest_write x = write_in (turn_of x) x

abbrev pub with_slots : Guest → Option Slot → Option Slot → Guest
with_slots x slot behind =
    record {
      extent = x.extent;
      mark = x.mark;
      paired = x.paired;
      side = x.side;
      slot = slot;
      behind = behind;
    }

abbrev pub moved_in : Turn → Guest → Guest
moved_in First x = with_slots x (after_write x.slot) x.behind
moved_in Second x = with_slots x x.slot (after_write x.behind)
moved_in Neither x = x

abbrev pub guest_after_write : Guest → Guest
guest_after_write x = moved_in (turn_of x) x

-- the group in Opening, of which there is at most one
abbrev pub or_else : Option Group → Option Group → Option Group
or_else (Some i) o = Some i
or_else None o = o

abbrev pub opening_of : Guest → Option Group
opening_of x = or_else (opening_in x.slot) (opening_in x.behind)

-- its mark after a sync that succeeded
abbrev pub mark_after : Option Group → ℕ → ℕ
mark_after None n = n
mark_after (Some i) n = last_of i + 1

abbrev pub marked : Guest → ℕ
marked x = mark_after (opening_of x) x.mark

-- once the first slot is empty, the one behind it is the first; both empty, slot A is
abbrev pub moved_up : Guest → ℕ → Option Slot → Option Slot → Guest
moved_up x n (Some first) behind =
    record {
      extent = x.extent;
      mark = n;
      paired = x.paired;
      side = x.side;
      slot = Some first;
      behind = behind;
    }
moved_up x n None (Some behind) =
    record {
      extent = x.extent;
      mark = n;
      paired = x.paired;
      side = other_side x.side;
      slot = Some behind;
      behind = None;
    }
moved_up x n None None =
    record { extent = x.extent; mark = n; paired = x.paired; side = A; slot = None; behind = None }

abbrev pub guest_after_sync : Guest → Guest
guest_after_sync x = moved_up x (marked x) (after_sync x.slot) (after_sync x.behind)

-- a slot that holds nothing: in version 1 there is one, in version 2 the other one counts too
abbrev pub has_room : Guest → Bool
has_room x = if x.paired then is_empty x.behind else is_empty x.slot

abbrev pub given_slot : Intent → Option Slot
given_slot i = Some (record { phase = Given; intent = i })

-- an intent is given to it
abbrev pub given_at : Guest → Intent → Option Slot → Guest
given_at x i None = with_slots x (given_slot i) x.behind
given_at x i (Some first) = with_slots x (Some first) (given_slot i)

abbrev pub with_intent : Guest → Intent → Guest
with_intent x i = given_at x i x.slot

-- a guest with nothing in its slots
abbrev pub resting : Bool → Region → ℕ → Guest
resting paired region n =
    record { extent = region; mark = n; paired = paired; side = A; slot = None; behind = None }

-- an intent behind an open gate, with no write of it done
abbrev pub opened_slot : Intent → Slot
opened_slot i = record { phase = Open (skipped i.group.entries); intent = i }

-- a guest behind one open gate
abbrev pub redoing : Bool → Region → Side → Intent → Guest
redoing paired region side i =
    record {
      extent = region;
      mark = last_of i.group + 1;
      paired = paired;
      side = side;
      slot = Some (opened_slot i);
      behind = None;
    }

-- a guest behind two open gates, the one of lower sequence at this side
abbrev pub redoing_two : Region → Side → Intent → Intent → Guest
redoing_two region side i j =
    record {
      extent = region;
      mark = last_of j.group + 1;
      paired = true;
      side = side;
      slot = Some (opened_slot i);
      behind = Some (opened_slot j);
    }
