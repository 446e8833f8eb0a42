-- No write has more bytes than the largest payload.
use Rattle.std.proofs.Common.{◌≤◌, ℕ, zero, suc, ◌+◌, List, [], ◌∷◌, Option, Some, None, length}
use Rattle.std.proofs.Common.{arith, IfSome}
use Rattle.flusher.proofs.Common.{slice_get, Region, SlotRegion, Entry, Group, Slot, Guest, last_of}
use Rattle.flusher.proofs.Common.{open_write, Turn, spelled, turn_of, GuestFits}
use Rattle.intent_slots.specs.Home.{home_bytes}
use Rattle.intent_slots.specs.Payload.{EntriesFit, GroupFits}
use Rattle.intent_slots.proofs.Again.{length-home_bytes, length-payload_bytes}
use Rattle.intent_slots.proofs.Same.{payload_short, short_blocks}
use Rattle.flusher.specs.Pair.{guest_write, region_of, side_behind, side_of, write_in}
use Rattle.flusher.specs.Phase.{next_write}
use Rattle.flusher.specs.Slot.{intent_of, slot_write}
use Rattle.flusher.specs.Store.{IntentFits}
use Rattle.flusher.specs.declared.phase.Phase.{Phase}
use Rattle.flusher.specs.declared.phase.Phase.TheVariants.{Given, Written, Ready, Opening, Open}
use Rattle.flusher.specs.declared.phase.Phase.TheVariants.{Applying, Applied, Closing}
use Rattle.flusher.specs.declared.guest.Turn.TheVariants.{First, Second, Neither}

abbrev pub IsShort : Option (ℕ × List ℕ) → Type 0
IsShort write = IfSome write (λ w. length w.1 ≤ 16648)

entry_short : (size counter : ℕ) (es : List Entry) (k : ℕ) → EntriesFit size counter es
    → IfSome (slice_get es k) (λ e. length e.blocks ≤ 4096)
entry_short size counter [] k fits = tt
entry_short size counter (e ∷ es) zero fits = short_blocks size counter e fits.0
entry_short size counter (e ∷ es) (suc k) fits = entry_short size (counter + 1) es k fits.1

module _ (region : Region) (side : SlotRegion) (i : Group) (fits : GroupFits region.size i) where
  home_short : length (home_bytes i.key (last_of i)) ≤ 16648
  home_short = (let long = length-home_bytes i.key (last_of i) in omega (arith, long))

  open_short : (o : Option Entry) → IfSome o (λ e. length e.blocks ≤ 4096)
      → IsShort (spelled region side (open_write i o))
  open_short None short = home_short
  open_short (Some e) short = omega (arith, short)

  phase_short : (phase : Phase) → IsShort (spelled region side (next_write phase i))
  phase_short Given = (let long = length-payload_bytes i in
      let short = payload_short region.size i fits in omega (arith, long, short))
  phase_short Written = tt
  phase_short Ready = omega arith
  phase_short Opening = tt
  phase_short (Open k) = open_short (slice_get i.entries k)
      (entry_short region.size i.first i.entries k fits.entries)
  phase_short Applying = tt
  phase_short Applied = omega arith
  phase_short Closing = tt

slot_short : (region : Region) (side : SlotRegion) (slot : Option Slot)
    → IntentFits region.size (intent_of slot) → IsShort (spelled region side (slot_write slot))
slot_short region side None fits = tt
slot_short region side (Some s) fits = phase_short region side s.intent.group fits s.phase

pub guest_short : (len g : ℕ) (x : Guest) → GuestFits len g x → IsShort (guest_write x)
guest_short len g x fits = by (turn_of x)
  where
    by : (t : Turn) → IsShort (write_in t x)
    by First = slot_short (region_of x) (side_of x) x.slot fits.slot_fits
    by Second = slot_short (region_of x) (side_behind x) x.behind fits.behind_fits
    by Neither = tt
