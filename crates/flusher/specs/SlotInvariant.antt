-- What every stop leaves of each guest (own).
use Rattle.std.specs.Prelude.{◌≡◌, ◌≢◌, ◌⊎◌, ℕ, ◌≤◌, Bool, true, false, List, length, drop, ◌+◌}
use Rattle.std.specs.Prelude.{slice_get, Option, Some, None}
use Rattle.rpmb_frame.specs.Partition.{sequence_of}
use Rattle.disk.specs.Content.{Content}
use Rattle.disk.specs.Disk.{DiskState, MayLeave}
use Rattle.intent_slots.specs.declared.layout.Side.TheVariants.{A}
use Rattle.intent_slots.specs.Layout.{Region, SlotRegion, AreApart, end_of}
use Rattle.intent_slots.specs.Payload.{Group, GroupFits, Intent, last_of}
use Rattle.intent_slots.specs.Recovered.{Part, HoldsHome, HasPayload, redone, redo, blocks_of}
use Rattle.intent_slots.specs.Recovered.{after, is_paired, Stands}
use Rattle.flusher.specs.declared.phase.Phase.{Phase}
use Rattle.flusher.specs.declared.phase.Phase.TheVariants.{Given, Written, Ready, Opening, Open}
use Rattle.flusher.specs.declared.phase.Phase.TheVariants.{Applying, Applied, Closing}
use Rattle.flusher.specs.declared.slot.Slot.{Slot}
use Rattle.flusher.specs.declared.guest.Guest.{Guest}
use Rattle.flusher.specs.Phase.{skipped, is_settled}
use Rattle.flusher.specs.Slot.{intent_of, pending_of, opening_in}
use Rattle.flusher.specs.Pair.{entries_in, opening_of, region_of, side_of, side_behind}

abbrev pub IsShut : SlotRegion → Content → Type 0
IsShut side c = c side.gate ≢ 165

abbrev pub IsWideOpen : SlotRegion → Content → Type 0
IsWideOpen side c = c side.gate ≡ 165

-- What every stop leaves in a partition's region, where p is the settled partition. In Opening and
-- Closing the gate may be any byte; in Open and Applying the blocks that the intent writes, and the
-- home record, may be any bytes.
abbrev pub PhaseRow : Region → SlotRegion → Part → Phase → Group → Content → Type 0
PhaseRow region side p Given i c = IsShut side c × HoldsHome region c p × GroupFits region.size i
PhaseRow region side p Written i c = IsShut side c × HoldsHome region c p × GroupFits region.size i
PhaseRow region side p Ready i c = IsShut side c × HoldsHome region c p × HasPayload region side i c
PhaseRow region side p Opening i c = HoldsHome region c p × HasPayload region side i c
PhaseRow region side p (Open k) i c =
    IsWideOpen side c × (redone region c i ≡ p) × HasPayload region side i c
PhaseRow region side p Applying i c =
    IsWideOpen side c × (redone region c i ≡ p) × HasPayload region side i c
PhaseRow region side p Applied i c =
    IsWideOpen side c × (redone region c i ≡ p) × HasPayload region side i c × HoldsHome region c p
PhaseRow region side p Closing i c =
    (redone region c i ≡ p) × HasPayload region side i c × HoldsHome region c p

abbrev pub Row : Region → SlotRegion → Part → Option Slot → Content → Type 0
Row region side p None c = IsShut side c × HoldsHome region c p
Row region side p (Some s) c = PhaseRow region side p s.phase s.intent.group c

-- What reads give besides, as long as no call has failed. In Open the entries that remain lead to
-- the partition's blocks.
abbrev pub PhaseSeen : Region → SlotRegion → Part → Phase → Group → Content → Type 0
PhaseSeen region side p Given i c = Unit {0}
PhaseSeen region side p Written i c = HasPayload region side i c
PhaseSeen region side p Ready i c = Unit {0}
PhaseSeen region side p Opening i c = IsWideOpen side c
PhaseSeen region side p (Open k) i c = redo (drop k i.entries) (blocks_of region c) ≡ p.blocks
PhaseSeen region side p Applying i c = HoldsHome region c p
PhaseSeen region side p Applied i c = Unit {0}
PhaseSeen region side p Closing i c = IsShut side c

abbrev pub Seen : Region → SlotRegion → Part → Option Slot → Content → Type 0
Seen region side p None c = Unit {0}
Seen region side p (Some s) c = PhaseSeen region side p s.phase s.intent.group c

-- the settled partition after a sync that succeeded, by the group in Opening
abbrev pub settled_with : Option Group → Part → Part
settled_with None p = p
settled_with (Some i) p = after p i

abbrev pub settled : Option Slot → Part → Part
settled slot p = settled_with (opening_in slot) p

-- the settled partition, or the one after the group whose gate may be either
abbrev pub BeforeOrAfter : Part → Option Group → Part → Type 0
BeforeOrAfter p None q = q ≡ p
BeforeOrAfter p (Some i) q = (q ≡ p) ⊎ (q ≡ after p i)

-- the partition that a stop leaves: the settled one, or, while a gate opens, that with its intent
abbrev pub MayStand : Part → Guest → Part → Type 0
MayStand p x q = BeforeOrAfter p (opening_of x) q

-- What every stop leaves of the slot behind the first: its gate and its payload. Of the home record
-- and the blocks the row of the first one speaks.
abbrev pub BehindRow : Region → SlotRegion → Phase → Group → Content → Type 0
BehindRow region side Given i c = IsShut side c × GroupFits region.size i
BehindRow region side Written i c = IsShut side c × GroupFits region.size i
BehindRow region side Ready i c = IsShut side c × HasPayload region side i c
BehindRow region side Opening i c = HasPayload region side i c
BehindRow region side (Open k) i c =
    IsWideOpen side c × HasPayload region side i c × (k ≡ skipped i.entries)
BehindRow region side Applying i c = ⊥
BehindRow region side Applied i c = ⊥
BehindRow region side Closing i c = ⊥

-- in version 1 nothing is known of slot B
abbrev pub Behind : Bool → Region → SlotRegion → Option Slot → Content → Type 0
Behind false region side None c = Unit {0}
Behind true region side None c = IsShut side c
Behind paired region side (Some s) c = BehindRow region side s.phase s.intent.group c

-- and what reads give besides, as long as no call has failed
abbrev pub BehindPhaseSeen : Region → SlotRegion → Phase → Group → Content → Type 0
BehindPhaseSeen region side Given i c = Unit {0}
BehindPhaseSeen region side Written i c = HasPayload region side i c
BehindPhaseSeen region side Ready i c = Unit {0}
BehindPhaseSeen region side Opening i c = IsWideOpen side c
BehindPhaseSeen region side (Open k) i c = Unit {0}
BehindPhaseSeen region side Applying i c = Unit {0}
BehindPhaseSeen region side Applied i c = Unit {0}
BehindPhaseSeen region side Closing i c = Unit {0}

abbrev pub BehindSeen : Region → SlotRegion → Option Slot → Content → Type 0
BehindSeen region side None c = Unit {0}
BehindSeen region side (Some s) c = BehindPhaseSeen region side s.phase s.intent.group c

-- The settled partition, from the one that the first slot leads to: where both intents are settled,
-- as an opening may find them, that with the second one.
abbrev pub LeadsBy : Bool → Part → Group → Part → Type 0
LeadsBy true between i p = after between i ≡ p
LeadsBy false between i p = between ≡ p

abbrev pub LeadsTo : Part → Option Slot → Part → Type 0
LeadsTo between None p = between ≡ p
LeadsTo between (Some s) p = LeadsBy (is_settled s.phase) between s.intent.group p

abbrev pub sequence_of_part : Part → ℕ
sequence_of_part p = sequence_of p.key p.counter

-- an intent follows a sequence: its first request comes next
abbrev pub Follows : ℕ → Option Intent → Type 0
Follows n None = Unit {0}
Follows n (Some i) = i.group.first ≡ n

-- the one intent's requests come next after the other's, under the same key
abbrev pub Chained : Option Intent → Option Intent → Type 0
Chained None j = Unit {0}
Chained (Some i) None = Unit {0}
Chained (Some i) (Some j) = (j.group.first ≡ last_of i.group + 1) × (j.group.key ≡ i.group.key)

-- How far the slot behind may be: its gate opens only while the first one's is being shut, and is
-- known to be open only behind one that is settled.
abbrev pub PhaseBesides : Phase → Phase → Type 0
PhaseBesides first Given = Unit {0}
PhaseBesides first Written = Unit {0}
PhaseBesides first Ready = Unit {0}
PhaseBesides first Opening = first ≡ Closing
PhaseBesides first (Open k) = is_settled first ≡ true
PhaseBesides first Applying = ⊥
PhaseBesides first Applied = ⊥
PhaseBesides first Closing = ⊥

-- it is in use only beside the first
abbrev pub Besides : Option Slot → Option Slot → Type 0
Besides first None = Unit {0}
Besides None (Some s) = ⊥
Besides (Some first) (Some s) = PhaseBesides first.phase s.phase

-- one slot is in use, slot A
pub record IsSingle (x : Guest) : Type 0 where
  pub alone : x.behind ≡ None
  pub side : x.side ≡ A

-- Of a guest's two slots the first has the lower sequence; in version 1 there is one.
pub record IsOrdered (x : Guest) : Type 0 where
  pub chained : Chained (intent_of x.slot) (intent_of x.behind)
  pub besides : Besides x.slot x.behind
  pub single : x.paired ≡ false → IsSingle x

-- the mark is the settled partition's sequence, and the intents that aren't settled follow it
pub record IsMarked (p : Part) (x : Guest) : Type 0 where
  pub mark : x.mark ≡ sequence_of_part p
  pub follows : Follows x.mark (pending_of x.slot)
  pub next_follows : Follows (x.mark + length (entries_in (pending_of x.slot)))
      (pending_of x.behind)
  pub ordered : IsOrdered x

-- Each guest's settled partition is held by every stop. X is what the store holds for one guest.
pub record IsHeldBy {X : Type 0} (region : X → Region) (row seen : Part → X → Content → Type 0)
    (parts : ℕ → Part) (guests : List X) (broken : Bool) (s : DiskState) : Type 0 where
  pub known : s.faithful ≡ true
  pub fits : (g : ℕ) (x : X) → slice_get guests g ≡ Some x → end_of (region x) ≤ s.len
  pub apart : (g h : ℕ) (x y : X) → g ≢ h → slice_get guests g ≡ Some x
      → slice_get guests h ≡ Some y → AreApart (region x) (region y)
  pub rows : (g : ℕ) (x : X) → slice_get guests g ≡ Some x → (c : Content) → MayLeave s c
      → row (parts g) x c
  pub seen_rows : broken ≡ false → (g : ℕ) (x : X) → slice_get guests g ≡ Some x
      → seen (parts g) x s.seen

-- What every stop leaves of a guest's partition, where p is the settled one: what the first slot's
-- row says of the partition that it leads to, and the gate and payload of the one behind.
pub record PairRow (p : Part) (x : Guest) (c : Content) : Type 0 where
  pub between : Part
  pub leads : LeadsTo between x.behind p
  pub row : Row (region_of x) (side_of x) between x.slot c
  pub behind : Behind x.paired (region_of x) (side_behind x) x.behind c

-- what reads give, as long as no call has failed
pub record PairSeen (p : Part) (x : Guest) (c : Content) : Type 0 where
  pub between : Part
  pub leads : LeadsTo between x.behind p
  pub row : Row (region_of x) (side_of x) between x.slot c
  pub seen : Seen (region_of x) (side_of x) between x.slot c
  pub behind : Behind x.paired (region_of x) (side_behind x) x.behind c
  pub behind_seen : BehindSeen (region_of x) (side_behind x) x.behind c

-- Its partition lies behind the header, whose version byte tells how many of its slots are in use.
pub record IsOfVersion (x : Guest) (c : Content) : Type 0 where
  pub behind : 1024 ≤ (region_of x).base
  pub version : x.paired ≡ is_paired c

abbrev pub guest_row : Part → Guest → Content → Type 0
guest_row p x c = PairRow p x c × IsMarked p x × IsOfVersion x c

abbrev pub guest_seen : Part → Guest → Content → Type 0
guest_seen p x c = PairSeen p x c

abbrev pub IsHeld : (ℕ → Part) → List Guest → Bool → DiskState → Type 0
IsHeld = IsHeldBy region_of guest_row guest_seen

-- A content stands for the guest's settled partition, or in Opening for that with its intent, and
-- never for one below the mark.
pub record IsKept (p : Part) (x : Guest) (c : Content) : Type 0 where
  pub part : Part
  pub stands : Stands (region_of x) c part
  pub may : MayStand p x part
  pub marked : x.mark ≤ sequence_of_part part

-- every stop leaves, for each guest, such a content
abbrev pub EachStop : (ℕ → Part) → List Guest → DiskState → Type 0
EachStop parts guests s = (g : ℕ) (x : Guest) → slice_get guests g ≡ Some x → (c : Content)
    → MayLeave s c → IsKept (parts g) x c

abbrev pub guest_settled : Guest → Part → Part
guest_settled x p = settled_with (opening_of x) p

abbrev pub settled_by : {X : Type 0} → (X → Part → Part) → Option X → Part → Part
settled_by settle None p = p
settled_by settle (Some x) p = settle x p
