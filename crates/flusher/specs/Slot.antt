-- A guest's slot (own): empty, or an intent with its phase.
use Rattle.std.specs.Prelude.{ℕ, ◌+◌, ◌*◌, Bool, true, false, not, List, [], ◌∷◌, if◌then◌else◌}
use Rattle.std.specs.Prelude.{Option, Some, None}
use Rattle.intent_slots.specs.Layout.{Region, SlotRegion, blocks_at}
use Rattle.intent_slots.specs.Payload.{Group, Intent, last_of, payload_bytes}
use Rattle.intent_slots.specs.Home.{home_bytes}
use Rattle.flusher.specs.declared.phase.Phase.{Phase}
use Rattle.flusher.specs.declared.slot.Slot.{Slot}
use Rattle.flusher.specs.Phase.{NextWrite, NoWrite, PayloadWrite, GateWrite, BlocksWrite, HomeWrite}
use Rattle.flusher.specs.Phase.{next_write, has_write, written, synced, is_opening, is_settled}

abbrev pub is_empty : Option Slot → Bool
is_empty None = true
is_empty (Some s) = false

-- the intent that is given or in the slot
abbrev pub intent_of : Option Slot → Option Intent
intent_of None = None
intent_of (Some s) = Some s.intent

-- the intent that isn't settled yet
abbrev pub pending_of : Option Slot → Option Intent
pending_of None = None
pending_of (Some s) = if is_settled s.phase then None else Some s.intent

-- the slot has a next write
abbrev pub slot_writes : Option Slot → Bool
slot_writes None = false
slot_writes (Some s) = has_write s.phase

-- a sync moves the slot: so it is in each phase that has no write
abbrev pub slot_awaits : Option Slot → Bool
slot_awaits None = false
slot_awaits (Some s) = not (has_write s.phase)

abbrev pub slot_write : Option Slot → NextWrite
slot_write None = NoWrite
slot_write (Some s) = next_write s.phase s.intent.group

-- the slot after its next write
abbrev pub after_write : Option Slot → Option Slot
after_write None = None
after_write (Some s) = Some (record { phase = written s.phase s.intent.group; intent = s.intent })

abbrev pub in_phase : Intent → Option Phase → Option Slot
in_phase i None = None
in_phase i (Some phase) = Some (record { phase = phase; intent = i })

-- the slot after a sync that succeeded
abbrev pub after_sync : Option Slot → Option Slot
after_sync None = None
after_sync (Some s) = in_phase s.intent (synced s.phase s.intent.group)

-- the group whose gate is written open and not synced
abbrev pub opening_in : Option Slot → Option Group
opening_in None = None
opening_in (Some s) = if is_opening s.phase then Some s.intent.group else None

-- where a write goes, and its bytes
abbrev pub spelled : Region → SlotRegion → NextWrite → Option (ℕ × List ℕ)
spelled region side NoWrite = None
spelled region side (PayloadWrite i) = Some (side.payload, payload_bytes i)
spelled region side (GateWrite byte) = Some (side.gate, byte ∷ [])
spelled region side (BlocksWrite e) = Some (blocks_at region + 256 * e.address, e.blocks)
spelled region side (HomeWrite i) = Some (region.base, home_bytes i.key (last_of i))
