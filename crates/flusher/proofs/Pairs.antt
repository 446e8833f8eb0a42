-- Two slots of one partition: what each write and each sync keeps.
use Rattle.std.proofs.Common.{◌≡◌, inl, inr, Bool, true, false, Option, Some, ℕ, ◌+◌, refl, ap, ◌∙◌}
use Rattle.std.proofs.Common.{arith}
use Rattle.flusher.proofs.Common.{cases_eq, Content, Side, A, Region, SlotRegion, slot_region}
use Rattle.flusher.proofs.Common.{other_side, blocks_at, Group, Intent, last_of, Part, HoldsHome}
use Rattle.flusher.proofs.Common.{HasPayload, redone, after, StandsFor, ByHome, ByPayload, SameOn}
use Rattle.flusher.proofs.Common.{Phase, Given, Written, Ready, Opening, Open, Applying, Applied}
use Rattle.flusher.proofs.Common.{Closing, Slot, PayloadWrite, GateWrite, next_write, is_opening}
use Rattle.flusher.proofs.Common.{is_settled, in_phase, after_sync, is_let_beside, IsShut, PhaseRow}
use Rattle.flusher.proofs.Common.{Row, PhaseSeen, Seen, BeforeOrAfter, BehindRow, Behind}
use Rattle.flusher.proofs.Common.{BehindSeen, LeadsBy}
use Rattle.intent_slots.specs.declared.layout.Side.TheVariants.{B}
use Rattle.intent_slots.specs.Recovered.{StandsForTwo, ByOne, ByBoth}
use Rattle.flusher.specs.Phase.{written, synced}
use Rattle.flusher.specs.SlotInvariant.{IsWideOpen, BehindPhaseSeen}
use Rattle.flusher.proofs.Rows.{Keeps, same_pl, redone_after, skip}

-- 1. A write of one slot, and the other one's gate and payload

-- they are as they were
pub record Spares (side : SlotRegion) (c d : Content) : Type 0 where
  pub gate : c side.gate ≡ d side.gate
  pub payload : SameOn side.payload 16648 c d

module _ (region : Region) (c d : Content) where
  module _ (side : SlotRegion) (same : Spares side c d) where
    behind_row_beside : (phase : Phase) (i : Group) → BehindRow region side phase i c
        → BehindRow region side phase i d
    behind_row_beside phase i b = grind (arith, same_pl)

    pub behind_beside : (paired : Bool) (slot : Option Slot) → Behind paired region side slot c
        → Behind paired region side slot d
    behind_beside paired slot b = grind (arith, behind_row_beside)

    behind_phase_seen_beside : (phase : Phase) (i : Group) → BehindPhaseSeen region side phase i c
        → BehindPhaseSeen region side phase i d
    behind_phase_seen_beside phase i s = grind (arith, same_pl)

    pub behind_seen_beside : (slot : Option Slot) → BehindSeen region side slot c
        → BehindSeen region side slot d
    behind_seen_beside slot s = grind (arith, behind_phase_seen_beside)

-- nothing of a partition was touched
pub spares_frame : (region : Region) (side : Side) (c d : Content)
    → SameOn region.base (35328 + region.size) c d → Spares (slot_region region side) c d
spares_frame region side c d same = grind arith

-- 2. The write of the slot behind

-- a write of a payload or a gate leaves the home record and the blocks
pub record SparesHome (region : Region) (c d : Content) : Type 0 where
  pub home : SameOn region.base 64 c d
  pub blocks : SameOn (blocks_at region) region.size c d

module _ (region : Region) (c d : Content) where
  -- what the slot behind may write beside the first leaves the home record and the blocks
  pub behind_spares : (side : Side) (first phase : Phase) (i : Group) → is_let_beside first phase
      ≡ true → Keeps region (slot_region region side) (next_write phase i) c d
      → SparesHome region c d
  behind_spares side first phase i is out = grind arith

  behind_payload : (side : Side) (i : Group)
      → Keeps region (slot_region region side) (PayloadWrite i) c d
      → c (slot_region region side).gate ≡ d (slot_region region side).gate
  behind_payload side i out = grind arith

  behind_gate : (side : Side) (i : Group) (byte : ℕ)
      → Keeps region (slot_region region side) (GateWrite byte) c d
      → HasPayload region (slot_region region side) i c
      → HasPayload region (slot_region region side) i d
  behind_gate side i byte out has = grind (arith, same_pl)

  -- its own row goes on, whatever stands in the write's range
  pub behind_write : (side : Side) (first phase : Phase) (i : Group) → is_let_beside first phase
      ≡ true → Keeps region (slot_region region side) (next_write phase i) c d
      → BehindRow region (slot_region region side) phase i c
      → BehindRow region (slot_region region side) (written phase i) i d
  behind_write side first Given i is out b = ((λ e. b.0 (behind_payload side i out ∙ e)), b.1)
  behind_write side first Written i is out b = absurd (cc)
  behind_write side first Ready i is out b = behind_gate side i 165 out b.1
  behind_write side first Opening i is out b = absurd (cc)
  behind_write side first (Open k) i is out b = absurd (cc)
  behind_write side first Applying i is out b = absurd (cc)
  behind_write side first Applied i is out b = absurd (cc)
  behind_write side first Closing i is out b = absurd (cc)

-- 3. A sync

module _ (region : Region) (side : SlotRegion) (p q : Part) (c : Content)
    (held : HoldsHome region c q) where
  promoted_phase : (phase : Phase) (i : Group) → BehindRow region side phase i c
      → LeadsBy (is_settled phase) q i p → PhaseRow region side p phase i c
  promoted_phase phase i b l = grind arith

  promoted_phase_seen : (phase : Phase) (i : Group) → BehindRow region side phase i c
      → BehindPhaseSeen region side phase i c → LeadsBy (is_settled phase) q i p
      → PhaseSeen region side p phase i c
  promoted_phase_seen phase i b s l = grind (arith, skip)

-- the slot behind, where the first one is known to be shut and the home is the one's that it leads
-- to: it is the first
pub promoted_row : (region : Region) (side : SlotRegion) (p q : Part) (s : Slot) (c : Content)
    → HoldsHome region c q → BehindRow region side s.phase s.intent.group c
    → LeadsBy (is_settled s.phase) q s.intent.group p → Row region side p (Some s) c
promoted_row region side p q s c held b leads =
    promoted_phase region side p q c held s.phase s.intent.group b leads

pub promoted_seen : (region : Region) (side : SlotRegion) (p q : Part) (s : Slot) (c : Content)
    → HoldsHome region c q → BehindRow region side s.phase s.intent.group c
    → BehindPhaseSeen region side s.phase s.intent.group c
    → LeadsBy (is_settled s.phase) q s.intent.group p → Seen region side p (Some s) c
promoted_seen region side p q s c held b seen leads =
    promoted_phase_seen region side p q c held s.phase s.intent.group b seen leads

module _ (region : Region) (side : SlotRegion) (c : Content) where
  put : (i : Intent) (phase : Phase) → BehindRow region side phase i.group c → (pair : Bool)
      → Behind pair region side (Some (record { phase = phase; intent = i })) c
  put i phase b pair = grind arith

  phase_synced : (phase : Phase) (i : Intent) (paired : Bool) → is_opening phase ≡ false
      → BehindRow region side phase i.group c → BehindPhaseSeen region side phase i.group c
      → Behind paired region side (in_phase i (synced phase i.group)) c
  phase_synced phase i paired un b s = grind arith

  phase_synced_seen : (phase : Phase) (i : Intent) → is_opening phase ≡ false
      → BehindRow region side phase i.group c → BehindPhaseSeen region side phase i.group c
      → BehindSeen region side (in_phase i (synced phase i.group)) c
  phase_synced_seen phase i un b s = grind arith

-- the slot behind beside one that stays: what it was given or had written goes on
pub behind_synced : (region : Region) (side : SlotRegion) (s : Slot) (c : Content)
    → is_opening s.phase ≡ false → BehindRow region side s.phase s.intent.group c
    → BehindPhaseSeen region side s.phase s.intent.group c
    → (paired : Bool) → Behind paired region side (after_sync (Some s)) c
behind_synced region side s c quiet b seen paired =
    phase_synced region side c s.phase s.intent paired quiet b seen

pub behind_synced_seen : (region : Region) (side : SlotRegion) (s : Slot) (c : Content)
    → is_opening s.phase ≡ false → BehindRow region side s.phase s.intent.group c
    → BehindPhaseSeen region side s.phase s.intent.group c
    → BehindSeen region side (after_sync (Some s)) c
behind_synced_seen region side s c quiet b seen = phase_synced_seen region side c s.phase s.intent
    quiet b seen

-- 4. What a stop leaves

module _ (region : Region) (side : Side) (c : Content) where
  neither : (p : Part) → IsShut (slot_region region side) c
      → IsShut (slot_region region (other_side side)) c → HoldsHome region c p
      → StandsForTwo region c p
  neither p = grind arith

  -- the other gate is shut: what the one says
  pub one_stands : (p : Part) → IsShut (slot_region region (other_side side)) c
      → StandsFor region (slot_region region side) c p → StandsForTwo region c p
  one_stands p theirs (ByHome mine held) = neither p mine theirs held
  one_stands p theirs (ByPayload i wide has is) = ByOne side i wide theirs has is

  -- the same, seen from the other side
  pub other_stands : (p : Part) (j : Group) → IsShut (slot_region region side) c
      → IsWideOpen (slot_region region (other_side side)) c
      → HasPayload region (slot_region region (other_side side)) j c → redone region c j ≡ p
      → StandsForTwo region c p
  other_stands p j mine theirs has is = by side mine theirs has
    where
      by : (at : Side) → IsShut (slot_region region at) c
          → IsWideOpen (slot_region region (other_side at)) c
          → HasPayload region (slot_region region (other_side at)) j c → StandsForTwo region c p
      by A mine theirs has = ByOne B j theirs mine has is
      by B mine theirs has = ByOne A j theirs mine has is

  module _ (p q : Part) (i j : Group) (follows : j.first ≡ last_of i + 1) (key : j.key ≡ i.key)
    where
      -- The one gate is being shut while the other one opens: a stop leaves the partition before
      -- the second group or after it.
      pub both_move : PhaseRow region (slot_region region side) p Closing i c
          → HasPayload region (slot_region region (other_side side)) j c → (part : Part)
          × StandsForTwo region c part × BeforeOrAfter p (Some j) part
      both_move r has = elim (cases_eq (c (slot_region region side).gate) 165) [
        | inl mine ↦ elim (cases_eq (c (slot_region region (other_side side)).gate) 165) [
          | inl theirs ↦ (
            after p j,
            ByBoth side i j mine theirs r.1 has follows key
                (ap (λ (v : Part). after v j) r.0),
            inr refl,
          )
          | inr theirs ↦ (p, ByOne side i mine theirs r.1 r.0, inl refl)
        ]
        | inr mine ↦ elim (cases_eq (c (slot_region region (other_side side)).gate) 165) [
          | inl theirs ↦ (
            after p j,
            other_stands (after p j) j mine theirs has (redone_after region j c p r.2),
            inr refl,
          )
          | inr theirs ↦ (p, neither p mine theirs r.2, inl refl)
        ]
      ]

      -- Both are settled: a stop leaves the partition after both.
      pub both_settled : (phase : Phase) → is_settled phase ≡ true
          → PhaseRow region (slot_region region side) q phase i c
          → IsWideOpen (slot_region region (other_side side)) c
          → HasPayload region (slot_region region (other_side side)) j c → after q j ≡ p
          → StandsForTwo region c p
      both_settled Given un r theirs has is = absurd (cc)
      both_settled Written un r theirs has is = absurd (cc)
      both_settled Ready un r theirs has is = absurd (cc)
      both_settled Opening un r theirs has is = absurd (cc)
      both_settled (Open k) ok r theirs has is =
          ByBoth side i j r.0 theirs r.2 has follows key (ap (λ (v : Part). after v j) r.1 ∙ is)
      both_settled Applying ok r theirs has is =
          ByBoth side i j r.0 theirs r.2 has follows key (ap (λ (v : Part). after v j) r.1 ∙ is)
      both_settled Applied ok r theirs has is =
          ByBoth side i j r.0 theirs r.2 has follows key (ap (λ (v : Part). after v j) r.1 ∙ is)
      both_settled Closing ok r theirs has is = elim (cases_eq (c (slot_region region side).gate)
          165) [
            | inl mine ↦ ByBoth side i j mine theirs r.1 has follows key
                (ap (λ (v : Part). after v j) r.0
                ∙ is)
            | inr mine ↦ other_stands p j mine theirs has (redone_after region j c q r.2 ∙ is)
          ]
