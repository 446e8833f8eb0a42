-- The intents of a guest that aren't settled, over its calls.
use Rattle.std.proofs.Common.{◌≡◌, Bool, true, false, Option, Some, None, ℕ, [], ◌∷◌, ◌++◌, refl}
use Rattle.std.proofs.Common.{ap, sym, ◌∙◌, subst}
use Rattle.flusher.proofs.Common.{if◌then◌else◌, Group, Intent, Phase, Given, Written, Ready}
use Rattle.flusher.proofs.Common.{Opening, Open, Applying, Applied, Closing, Slot, Guest, Turn}
use Rattle.flusher.proofs.Common.{First, Second, Neither, is_opening, is_settled, is_empty}
use Rattle.flusher.proofs.Common.{intent_of, slot_writes, pending_of, opening_in, in_phase}
use Rattle.flusher.proofs.Common.{after_sync, behind_writes, or_else, mark_of, marked}
use Rattle.flusher.proofs.Common.{moved_up, moved_in, turn_of, with_slots, given_at}
use Rattle.flusher.proofs.Common.{guest_after_write, Besides}
use Rattle.flusher.proofs.Common.{PhaseBesides}
use Rattle.flusher.specs.Phase.{synced}
use Rattle.flusher.specs.Pair.{listed, pending_intents, opening_of}
use Rattle.flusher.specs.Laws.{PendingStays, PendingGrows, PendingSettles, Settles}
use Rattle.flusher.proofs.Turns.{pending_written, intent_written, turn_behind, first_writes_besides}
use Rattle.flusher.proofs.Turns.{behind_writes_besides}

-- 1. A write

turn_stays : (t : Turn) (x : Guest) → pending_intents (moved_in t x) ≡ pending_intents x
turn_stays First x = ap (λ (o : Option Intent). listed o ++ listed (pending_of x.behind))
    (pending_written x.slot)
turn_stays Second x = ap (λ (o : Option Intent). listed (pending_of x.slot) ++ listed o)
    (pending_written x.behind)
turn_stays Neither x = refl

turn_mark : (t : Turn) (x : Guest) → mark_of (moved_in t x) ≡ mark_of x
turn_mark First x = refl
turn_mark Second x = refl
turn_mark Neither x = refl

pub pending_stays : PendingStays
pending_stays x = (turn_stays (turn_of x) x, turn_mark (turn_of x) x)

-- 2. An intent that is given

full : (pair : Bool) → (if pair then false else false) ≡ true → ⊥
full true is = absurd (cc)
full false is = absurd (cc)

pending_given : (x : Guest) (i : Intent) (slot behind : Option Slot)
    → (if x.paired then is_empty behind else is_empty slot) ≡ true → Besides slot behind
    → (pending_intents (given_at (with_slots x slot behind) i slot)
    ≡ pending_intents (with_slots x slot behind) ++ i ∷ [])
    × (mark_of (given_at (with_slots x slot behind) i slot) ≡ mark_of x)
pending_given x i None None room b = (refl, refl)
pending_given x i None (Some s) room b = absurd b
pending_given x i (Some f) None room b = (one (pending_of (Some f)), refl)
  where
    one : (o : Option Intent) → listed o ++ i ∷ [] ≡ (listed o ++ []) ++ i ∷ []
    one None = refl
    one (Some j) = refl
pending_given x i (Some f) (Some s) room b = absurd (full x.paired room)

pub pending_grows : PendingGrows
pending_grows x i room b = pending_given x i x.slot x.behind room b

-- 3. A sync

moved_up_pending : (x : Guest) (n : ℕ) (slot behind : Option Slot)
    → pending_intents (moved_up x n slot behind) ≡ listed (pending_of slot)
    ++ listed (pending_of behind)
moved_up_pending x n (Some f) behind = refl
moved_up_pending x n None None = refl
moved_up_pending x n None (Some b) = nothing (pending_of (Some b))
  where
    nothing : (o : Option Intent) → listed o ++ [] ≡ listed o
    nothing None = refl
    nothing (Some j) = refl

moved_up_mark : (x : Guest) (n : ℕ) (slot behind : Option Slot) → mark_of (moved_up x n slot behind)
    ≡ n
moved_up_mark x n (Some f) behind = refl
moved_up_mark x n None None = refl
moved_up_mark x n None (Some b) = refl

-- a slot that opens no gate keeps what is pending in it
abbrev if_pending : Bool → Intent → Option Intent
if_pending settled i = if settled then None else Some i

abbrev opening_if : Bool → Group → Option Group
opening_if opening i = if opening then Some i else None

quiet_keeps : (phase : Phase) (i : Intent) → is_opening phase ≡ false
    → pending_of (in_phase i (synced phase i.group)) ≡ if_pending (is_settled phase) i
quiet_keeps Given i q = refl
quiet_keeps Written i q = refl
quiet_keeps Ready i q = refl
quiet_keeps Opening i q = absurd (cc)
quiet_keeps (Open k) i q = refl
quiet_keeps Applying i q = refl
quiet_keeps Applied i q = refl
quiet_keeps Closing i q = refl

opening_is : (phase : Phase) → is_opening phase ≡ true → phase ≡ Opening
opening_is Given is = absurd (cc)
opening_is Written is = absurd (cc)
opening_is Ready is = absurd (cc)
opening_is Opening is = refl
opening_is (Open k) is = absurd (cc)
opening_is Applying is = absurd (cc)
opening_is Applied is = absurd (cc)
opening_is Closing is = absurd (cc)

abbrev after_phase : Phase → Intent → Option Intent
after_phase phase i = pending_of (in_phase i (synced phase i.group))

abbrev Both : Phase → Phase → Intent → Intent → Type 0
Both first phase i j = Settles (or_else (opening_if (is_opening first) i.group)
    (opening_if (is_opening phase) j.group)) (listed (if_pending (is_settled first) i)
    ++ listed (if_pending (is_settled phase) j)) (listed (after_phase first i)
    ++ listed (after_phase phase j))

-- the slot behind opens no gate
quiet_behind : (first phase : Phase) (i j : Intent) → is_opening phase ≡ false
    → Both first phase i j
quiet_behind first phase i j q = by (is_opening first) refl
  where
    by : (o : Bool) → is_opening first ≡ o → Both first phase i j
    by true e = subst (λ (v : Phase). Both v phase i j) (sym (opening_is first e)) (
      i,
      ap (λ (o : Option Intent). i ∷ listed o) (sym (quiet_keeps phase j q)),
      refl,
    )
    by false e =
        let one = quiet_keeps first i e in
        let two = quiet_keeps phase j q in
        subst (λ (v : Option Group). Settles v (listed (if_pending (is_settled first) i)
        ++ listed (if_pending (is_settled phase) j)) (listed (after_phase first i)
        ++ listed (after_phase phase j)))
        (sym (ap (λ (v : Bool). or_else (opening_if v i.group)
        (opening_if (is_opening phase) j.group)) e ∙ ap (λ (v : Bool). opening_if v j.group) q))
        (ap (λ (o : Option Intent). listed o ++ listed (after_phase phase j)) one
        ∙ ap (λ (o : Option Intent). listed (if_pending (is_settled first) i) ++ listed o) two)

both : (first phase : Phase) (i j : Intent) → PhaseBesides first phase → Both first phase i j
both first Given i j b = quiet_behind first Given i j refl
both first Written i j b = quiet_behind first Written i j refl
both first Ready i j b = quiet_behind first Ready i j refl
both first Opening i j b = subst (λ (v : Phase). Both v Opening i j) (sym b) (j, refl, refl)
both first (Open k) i j b = quiet_behind first (Open k) i j refl
both first Applying i j b = absurd b
both first Applied i j b = absurd b
both first Closing i j b = absurd b

alone : (phase : Phase) (i : Intent)
    → Settles (or_else (opening_if (is_opening phase) i.group) None)
    (listed (if_pending (is_settled phase) i) ++ []) (listed (after_phase phase i) ++ [])
alone Given i = refl
alone Written i = refl
alone Ready i = refl
alone Opening i = (i, refl, refl)
alone (Open k) i = refl
alone Applying i = refl
alone Applied i = refl
alone Closing i = refl

slots_settle : (slot behind : Option Slot) → Besides slot behind
    → Settles (or_else (opening_in slot) (opening_in behind)) (listed (pending_of slot)
    ++ listed (pending_of behind)) (listed (pending_of (after_sync slot))
    ++ listed (pending_of (after_sync behind)))
slots_settle None None b = refl
slots_settle None (Some s) b = absurd b
slots_settle (Some f) None b = alone f.phase f.intent
slots_settle (Some f) (Some s) b = both f.phase s.phase f.intent s.intent b

pub pending_settles : PendingSettles
pending_settles x b = (
  subst (Settles (opening_of x) (pending_intents x))
      (sym (moved_up_pending x (marked x) (after_sync x.slot) (after_sync x.behind)))
      (slots_settle x.slot x.behind b),
  moved_up_mark x (marked x) (after_sync x.slot) (after_sync x.behind),
)

-- 4. What holds of each intent in a slot, and how far the slot behind is, stays over a write

module _ (P : Option Intent → Type 0) (x : Guest) where
  abbrev Keeps : Guest → Type 0
  Keeps y = P (intent_of y.slot) × P (intent_of y.behind) × Besides y.slot y.behind

  turn_keeps : (t : Turn) → turn_of x ≡ t → Keeps x → Keeps (moved_in t x)
  turn_keeps First is k = (
    subst P (sym (intent_written x.slot)) k.0,
    k.1,
    first_writes_besides x.slot x.behind k.2,
  )
  turn_keeps Second is k = (
    k.0,
    subst P (sym (intent_written x.behind)) k.1,
    behind_writes_besides x.slot x.behind k.2
        (turn_behind (slot_writes x.slot) (behind_writes x.slot x.behind) is),
  )
  turn_keeps Neither is k = k

  pub write_keeps : Keeps x → Keeps (guest_after_write x)
  write_keeps k = turn_keeps (turn_of x) refl k
