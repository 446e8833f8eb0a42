-- A guest whose turn it is to write: which of its slots, and what that leaves of the other.
use Rattle.std.proofs.Common.{◌≡◌, ◌≢◌, Bool, true, Option, Some, None, arith}
use Rattle.flusher.proofs.Common.{if◌then◌else◌, Content, Side, Region, SlotRegion, IsSlotRegion}
use Rattle.flusher.proofs.Common.{slot_region, other_side, Group, Part, Closing, Slot, Second}
use Rattle.flusher.proofs.Common.{has_write, slot_write, after_write, intent_of, pending_of}
use Rattle.flusher.proofs.Common.{opening_in, or_else, is_let_beside, behind_writes, Row, Seen}
use Rattle.flusher.proofs.Common.{Behind, BehindRow, BehindSeen, LeadsTo, Besides}
use Rattle.std.specs.Prelude.{◌&&◌}
use Rattle.flusher.specs.Phase.{written}
use Rattle.flusher.specs.Pair.{turn_by}
use Rattle.flusher.proofs.Rows.{Keeps, Puts, row_beside, seen_beside}
use Rattle.flusher.proofs.Pairs.{behind_spares, behind_write}

pub side_ok : (region : Region) (side : Side) → IsSlotRegion region (slot_region region side)
side_ok region side = grind arith

pub turn_behind : (a b : Bool) → turn_by a b ≡ Second → b ≡ true
turn_behind a b is = grind arith

pub and_right : (a b : Bool) → (a && b) ≡ true → b ≡ true
and_right a b is = grind arith

pub pending_written : (slot : Option Slot) → pending_of (after_write slot) ≡ pending_of slot
pending_written slot = grind arith

pub intent_written : (slot : Option Slot) → intent_of (after_write slot) ≡ intent_of slot
intent_written slot = grind arith

pub leads_written : (between : Part) (behind : Option Slot) (p : Part) → LeadsTo between behind p
    → LeadsTo between (after_write behind) p
leads_written between behind p l = grind arith

-- 1. How far the slot behind may be

pub first_writes_besides : (first behind : Option Slot) → Besides first behind
    → Besides (after_write first) behind
first_writes_besides first behind b = grind arith

pub behind_writes_besides : (first behind : Option Slot) → Besides first behind
    → behind_writes first behind ≡ true → Besides first (after_write behind)
behind_writes_besides first behind b w = grind arith

-- 2. The write of the slot behind, and both rows

module _ (paired : Bool) (region : Region) (side : Side) (between : Part) (c d : Content) where
  abbrev mine : SlotRegion
  mine = slot_region region side

  abbrev theirs : SlotRegion
  theirs = slot_region region (other_side side)

  pub behind_keeps_first : (first behind : Option Slot) → Besides first behind
      → behind_writes first behind ≡ true → Keeps region theirs (slot_write behind) c d
      → Row region mine between first c → Row region mine between first d
  behind_keeps_first first behind b w out r = grind (arith, behind_spares, row_beside)

  pub behind_keeps_first_seen : (first behind : Option Slot) → Besides first behind
      → behind_writes first behind ≡ true → Keeps region theirs (slot_write behind) c d
      → Seen region mine between first c → Seen region mine between first d
  behind_keeps_first_seen first behind b w out r = grind (arith, seen_beside)

  at_last : (pair : Bool) (s : Slot) → BehindRow region theirs s.phase s.intent.group d
      → Behind pair region theirs (Some s) d
  at_last pair s b = grind arith

  from_row : (pair : Bool) (s : Slot) → Behind pair region theirs (Some s) c
      → BehindRow region theirs s.phase s.intent.group c
  from_row pair s b = grind arith

  pub behind_goes_on : (first behind : Option Slot) → Besides first behind
      → behind_writes first behind ≡ true → Keeps region theirs (slot_write behind) c d
      → Behind paired region theirs behind c → Behind paired region theirs (after_write behind) d
  behind_goes_on first None b w out h = absurd (cc)
  behind_goes_on None (Some s) b w out h = absurd b
  behind_goes_on (Some f) (Some s) b w out h =
      at_last paired (record { phase = written s.phase s.intent.group; intent = s.intent })
      (behind_write region c d (other_side side) f.phase s.phase s.intent.group
      (and_right (has_write s.phase) (is_let_beside f.phase s.phase) w) out
      (from_row paired s h))

  pub behind_goes_on_seen : (first behind : Option Slot) → Besides first behind
      → behind_writes first behind ≡ true → Puts region theirs (slot_write behind) d
      → BehindSeen region theirs (after_write behind) d
  behind_goes_on_seen first behind b w put = grind arith

-- 3. What may stand while the write is under way

or_none : (o : Option Group) → or_else o None ≡ o
or_none o = grind arith

abbrev opening_if : Bool → Group → Option Group
opening_if opening i = if opening then Some i else None

pub quiet_behind : (first : Slot) (behind : Option Slot) → first.phase ≢ Closing
    → Besides (Some first) behind → opening_in behind ≡ None
quiet_behind first behind un b = grind arith
