-- The rows of one guest, as a round asks for them.
use Rattle.std.proofs.Common.{◌≡◌, inl, Bool, true, false, Option, Some, None, ℕ, ◌+◌, ◌≤◌, List}
use Rattle.std.proofs.Common.{length, refl, ap, sym, ◌∙◌, subst, arith}
use Rattle.flusher.proofs.Common.{if◌then◌else◌, Content, Side, A, Region, slot_region, other_side}
use Rattle.flusher.proofs.Common.{end_of, Group, Intent, Part, StandsFor, SameOn, Phase, Given}
use Rattle.flusher.proofs.Common.{Written, Ready, Opening, Open, Applying, Applied, Closing, Slot}
use Rattle.flusher.proofs.Common.{Guest, Turn, First, Second, Neither, is_opening, is_settled}
use Rattle.flusher.proofs.Common.{slot_write, slot_writes, intent_of, pending_of, opening_in}
use Rattle.flusher.proofs.Common.{after_sync, region_of, side_of, side_behind, entries_in, or_else}
use Rattle.flusher.proofs.Common.{behind_writes, turn_of, write_in, moved_in, guest_write}
use Rattle.flusher.proofs.Common.{guest_after_write, guest_after_sync, moved_up, marked, PhaseRow}
use Rattle.flusher.proofs.Common.{Row, guest_row, guest_seen, guest_settled, PairRow, Behind}
use Rattle.flusher.proofs.Common.{LeadsTo, LeadsBy, PhaseBesides, Besides, BeforeOrAfter, Follows}
use Rattle.flusher.proofs.Common.{IsMarked, IsOfVersion, IsKept, sequence_of_part, IntentFits}
use Rattle.std.specs.Prelude.{◌==◌}
use Rattle.intent_slots.specs.Recovered.{StandsIn, is_paired}
use Rattle.flusher.specs.SlotInvariant.{PairSeen, Chained, IsOrdered}
use Rattle.flusher.proofs.Rows.{row_frame, seen_frame, Keeps, IsWritten, own_write, own_seen}
use Rattle.flusher.proofs.Rows.{row_stands}
use Rattle.flusher.proofs.Writes.{SameOutside, WriteFits, row_fits, write_fits, within, keeps, puts}
use Rattle.flusher.proofs.Pairs.{spares_frame, behind_beside, behind_seen_beside, one_stands}
use Rattle.flusher.proofs.Pairs.{both_move, both_settled}
use Rattle.flusher.proofs.Turns.{side_ok, turn_behind, leads_written, behind_keeps_first}
use Rattle.flusher.proofs.Turns.{behind_keeps_first_seen, behind_goes_on, behind_goes_on_seen}
use Rattle.flusher.proofs.Syncs.{or_none, sync_goes}

-- 1. The write that comes next

behind_fits : (region : Region) (side : Side) (slot : Option Slot) (pair : Bool) (c : Content)
    → Behind pair region (slot_region region side) slot c → IntentFits region.size (intent_of slot)
behind_fits region side slot pair c b = grind arith

module _ (x : Guest) (at : ℕ) (bytes : List ℕ) where
  abbrev region : Region
  region = region_of x

  first_write_fits : (between : Part) (c : Content) → Row region (side_of x) between x.slot c
      → write_in First x ≡ Some (at, bytes) → WriteFits region (slot_write x.slot)
  first_write_fits between c row next = write_fits region (side_of x) x.slot (at, bytes)
      (row_fits region (side_of x) between x.slot c row) next

  second_write_fits : (c : Content) → Behind x.paired region (side_behind x) x.behind c
      → write_in Second x ≡ Some (at, bytes) → WriteFits region (slot_write x.behind)
  second_write_fits c b next = write_fits region (side_behind x) x.behind (at, bytes)
      (behind_fits region (other_side x.side) x.behind x.paired c b) next

  range_in : (t : Turn) (p : Part) (c : Content) → PairRow p x c → write_in t x ≡ Some (at, bytes)
      → (region.base ≤ at) × (at + length bytes ≤ end_of region)
  range_in First p c r next = within region (side_of x) (side_ok region x.side) (slot_write x.slot)
      (at, bytes) (first_write_fits r.between c r.row next) next
  range_in Second p c r next = within region (side_behind x) (side_ok region (other_side x.side))
      (slot_write x.behind) (at, bytes) (second_write_fits c r.behind next) next
  range_in Neither p c r next = absurd (cc)

pub t_range : (p : Part) (x : Guest) (c : Content) (at : ℕ) (bytes : List ℕ) → guest_row p x c
    → guest_write x ≡ Some (at, bytes) → ((region_of x).base ≤ at)
    × (at + length bytes ≤ end_of (region_of x)) × (1024 ≤ at)
t_range p x c at bytes r next = (let in_it = range_in x at bytes (turn_of x) p c r.0 next in
    (in_it.0, in_it.1, omega (arith, in_it.0)))

pub same_version : (x : Guest) (c d : Content) → c 512 ≡ d 512 → IsOfVersion x c → IsOfVersion x d
unfolding is_paired
same_version x c d same v =
    record { behind = v.behind; version = v.version ∙ ap (λ (n : ℕ). n == 2) same }

moved_version : (t : Turn) (x : Guest) (c : Content) → IsOfVersion x c
    → IsOfVersion (moved_in t x) c
moved_version t x c v = grind arith

-- 2. Marks

second_marks : (p : Part) (x : Guest) → behind_writes x.slot x.behind ≡ true → IsMarked p x
    → IsMarked p (moved_in Second x)
second_marks p x w m = grind arith

-- 3. A write

module _ (x : Guest) (at : ℕ) (bytes : List ℕ) (c d : Content) (out : SameOutside c d at bytes)
  where
    abbrev area : Region
    area = region_of x

    first_keeps : (between : Part) → Row area (side_of x) between x.slot c
        → write_in First x ≡ Some (at, bytes) → Keeps area (side_of x) (slot_write x.slot) c d
    first_keeps between row next = keeps area (side_of x) (side_ok area x.side) (slot_write x.slot)
        at
        bytes c d (first_write_fits x at bytes between c row next) next out

    second_keeps : Behind x.paired area (side_behind x) x.behind c
        → write_in Second x ≡ Some (at, bytes) → Keeps area (side_behind x) (slot_write x.behind) c
        d
    second_keeps b next = keeps area (side_behind x) (side_ok area (other_side x.side))
        (slot_write x.behind) at bytes c d (second_write_fits x at bytes c b next) next out

    version_stays : 1024 ≤ at → IsOfVersion x c → IsOfVersion x d
    version_stays far v = same_version x c d (sym (out 512 (inl (omega (arith, far))))) v

    write_in_turn : (t : Turn) → turn_of x ≡ t → (p : Part) → write_in t x ≡ Some (at, bytes)
        → PairRow p x c × IsMarked p x → PairRow p (moved_in t x) d × IsMarked p (moved_in t x)
    write_in_turn First is p next r = grind (arith, behind_beside, first_keeps, own_write)
    write_in_turn Second is p next r =
        let keep = second_keeps r.0.behind next in
        let w = turn_behind (slot_writes x.slot) (behind_writes x.slot x.behind) is in
        let b = r.1.ordered.besides in (
          record {
            between = r.0.between;
            leads = leads_written r.0.between x.behind p r.0.leads;
            row = behind_keeps_first x.paired area x.side r.0.between c d x.slot x.behind b w keep
                r.0.row;
            behind = behind_goes_on x.paired area x.side r.0.between c d x.slot x.behind b w keep
                r.0.behind;
          },
          second_marks p x w r.1,
        )
    write_in_turn Neither is p next r = absurd (cc)

    module _ (put : IsWritten d at bytes) where
      seen_in_turn : (t : Turn) → turn_of x ≡ t → (p : Part) → write_in t x ≡ Some (at, bytes)
          → IsMarked p x → PairSeen p x c → PairSeen p (moved_in t x) d
      seen_in_turn First is p next m s =
          grind (arith, behind_beside, behind_seen_beside, first_keeps, own_seen, own_write, puts)
      seen_in_turn Second is p next m s =
          let keep = second_keeps s.behind next in
          let w = turn_behind (slot_writes x.slot) (behind_writes x.slot x.behind) is in
          let b = m.ordered.besides in
          record {
            between = s.between;
            leads = leads_written s.between x.behind p s.leads;
            row = behind_keeps_first x.paired area x.side s.between c d x.slot x.behind b w keep
                s.row;
            seen = behind_keeps_first_seen x.paired area x.side s.between c d x.slot x.behind b w
                keep
                s.seen;
            behind = behind_goes_on x.paired area x.side s.between c d x.slot x.behind b w keep
                s.behind;
            behind_seen = grind (arith, behind_goes_on_seen, puts, second_write_fits, side_ok);
          }
      seen_in_turn Neither is p next m s = absurd (cc)

pub t_write : (p : Part) (x : Guest) (c d : Content) (at : ℕ) (bytes : List ℕ)
    → guest_write x ≡ Some (at, bytes) → SameOutside c d at bytes → guest_row p x c
    → guest_row p (guest_after_write x) d
t_write p x c d at bytes next out r =
    let far = (t_range p x c at bytes r next).2 in
    let both = write_in_turn x at bytes c d out (turn_of x) refl p next (r.0, r.1) in
    (both.0, both.1, moved_version (turn_of x) x d (version_stays x at bytes c d out far r.2))

pub t_seen : (p : Part) (x : Guest) (c d : Content) (at : ℕ) (bytes : List ℕ)
    → guest_write x ≡ Some (at, bytes) → SameOutside c d at bytes → IsWritten d at bytes
    → guest_row p x c → guest_seen p x c → guest_seen p (guest_after_write x) d
t_seen p x c d at bytes next out put r s = seen_in_turn x at bytes c d out put (turn_of x) refl p
    next r.1 s

-- 4. What a stop leaves

record StandsAny (paired : Bool) (region : Region) (p : Part) (o : Option Group) (c : Content) :
    Type 0 where
  part : Part
  is : StandsIn paired region c part
  may : BeforeOrAfter p o part

module _ (region : Region) (side : Side) (p between : Part) (c : Content) where
  may_at : (o : Option Group) (q : Part) → between ≡ p → BeforeOrAfter between o q
      → BeforeOrAfter p (or_else o None) q
  may_at o q is m = subst (λ (v : Option Group). BeforeOrAfter p v q) (sym (or_none o))
      (subst (λ (v : Part). BeforeOrAfter v o q) is m)

  alone : (paired : Bool) (slot : Option Slot) → Row region (slot_region region side) between slot c
      → Behind paired region (slot_region region (other_side side)) None c → between ≡ p
      → (paired ≡ false → side ≡ A)
      → StandsAny paired region p (or_else (opening_in slot) None) c
  alone false slot row b is single =
      let st = row_stands region (slot_region region side) between slot c row in
      record {
        part = st.part;
        is =
            subst (λ (v : Side). StandsFor region (slot_region region v) c st.part) (single refl)
            st.is;
        may = may_at (opening_in slot) st.part is st.may;
      }
  alone true slot row b is single =
      let st = row_stands region (slot_region region side) between slot c row in
      record {
        part = st.part;
        is = one_stands region side c st.part b st.is;
        may =
            may_at (opening_in slot) st.part is st.may;
      }

  abbrev opening_if : Bool → Group → Option Group
  opening_if opening i = if opening then Some i else None

  not_single : true ≡ false → side ≡ A
  not_single un = absurd (cc)

  settled_quiet : (phase : Phase) → is_settled phase ≡ true → is_opening phase ≡ false
  settled_quiet phase is = grind arith

  both : (f : Slot) (phase : Phase) (j : Intent)
      → Row region (slot_region region side) between (Some f) c
      → Behind true region (slot_region region (other_side side))
      (Some (record { phase = phase; intent = j })) c
      → LeadsBy (is_settled phase) between j.group p → Chained (Some f.intent) (Some j)
      → PhaseBesides f.phase phase
      → StandsAny true region p
      (or_else (opening_in (Some f)) (opening_if (is_opening phase) j.group)) c
  both f Given j row b l ch pb = alone true (Some f) row b.0 l not_single
  both f Written j row b l ch pb = alone true (Some f) row b.0 l not_single
  both f Ready j row b l ch pb = alone true (Some f) row b.0 l not_single
  both f Opening j row b l ch pb =
      let here = subst (λ (v : Phase). PhaseRow region (slot_region region side) p v f.intent.group
      c) pb (subst (λ (v : Part). PhaseRow region (slot_region region side) v f.phase
      f.intent.group c) l row) in
      let st = both_move region side c p between f.intent.group j.group ch.0 ch.1 here b in
      record {
        part = st.0;
        is = st.1;
        may =
            subst (λ (v : Phase). BeforeOrAfter p (or_else
            (opening_if (is_opening v) f.intent.group)
            (Some j.group)) st.0) (sym pb) st.2;
      }
  both f (Open k) j row b l ch pb =
      let is = both_settled region side c p between f.intent.group j.group ch.0 ch.1 f.phase pb row
      b.0 b.1 l in
      record {
        part = p;
        is = is;
        may =
            subst (λ (v : Bool). BeforeOrAfter p (or_else (opening_if v f.intent.group) None) p)
            (sym (settled_quiet f.phase pb)) refl;
      }
  both f Applying j row b l ch pb = absurd pb
  both f Applied j row b l ch pb = absurd pb
  both f Closing j row b l ch pb = absurd pb

  any_stands : (paired : Bool) (slot behind : Option Slot)
      → Row region (slot_region region side) between slot c
      → Behind paired region (slot_region region (other_side side)) behind c
      → LeadsTo between behind p → Chained (intent_of slot) (intent_of behind) → Besides slot behind
      → (paired ≡ false → (behind ≡ None) × (side ≡ A))
      → StandsAny paired region p (or_else (opening_in slot) (opening_in behind)) c
  any_stands paired slot behind row b l ch be single = grind (arith, alone, both)

module _ (p q : Part) (n : ℕ) (slot behind : Option Slot) (is : n ≡ sequence_of_part p)
    (f : Follows n (pending_of slot)) (g : Follows (n + length (entries_in (pending_of slot)))
    (pending_of behind)) where
  above_by : (o u : Option Group) → opening_in slot ≡ o → opening_in behind ≡ u
      → BeforeOrAfter p (or_else o u) q → n ≤ sequence_of_part q
  above_by o u at there m = grind arith

  above : BeforeOrAfter p (or_else (opening_in slot) (opening_in behind)) q → n ≤ sequence_of_part q
  above = above_by (opening_in slot) (opening_in behind) refl refl

pub t_stands : (p : Part) (x : Guest) (c : Content) → guest_row p x c → IsKept p x c
t_stands p x c r =
    let m = r.1 in
    let st = any_stands (region_of x) x.side p r.0.between c x.paired x.slot x.behind r.0.row
    r.0.behind r.0.leads m.ordered.chained m.ordered.besides (λ un.
    ((m.ordered.single un).alone, (m.ordered.single un).side)) in
    record {
      part = st.part;
      stands = subst (λ (v : Bool). StandsIn v (region_of x) c st.part)
          r.2.version st.is;
      may = st.may;
      marked =
          above p st.part x.mark x.slot x.behind m.mark m.follows m.next_follows st.may;
    }

-- where no gate opens, the settled partition stands
pub settled_stands : (p : Part) (x : Guest) (c : Content) → PairRow p x c → IsOrdered x
    → opening_in x.slot ≡ None → opening_in x.behind ≡ None → StandsIn x.paired (region_of x) c p
settled_stands p x c r o one two = grind (arith, any_stands)

-- what stands before a write may stand while it is under way
kept_in_turn : (t : Turn) (p : Part) (x : Guest) (c : Content) → turn_of x ≡ t
    → Besides x.slot x.behind → IsKept p x c → IsKept p (moved_in t x) c
kept_in_turn t p x c is b k = grind arith

pub t_moved : (p : Part) (x : Guest) (c : Content) → guest_row p x c
    → IsKept p (guest_after_write x) c
t_moved p x c r = kept_in_turn (turn_of x) p x c refl r.1.ordered.besides (t_stands p x c r)

-- 5. A call elsewhere, and a sync

pub t_frame : (p : Part) (x : Guest) (c d : Content)
    → SameOn (region_of x).base (35328 + (region_of x).size) c d → c 512 ≡ d 512 → guest_row p x c
    → guest_row p x d
t_frame p x c d same front r = (
  record {
    between = r.0.between;
    leads = r.0.leads;
    row = row_frame (region_of x) (side_of x) (side_ok (region_of x) x.side) c d same r.0.between
        x.slot r.0.row;
    behind = behind_beside (region_of x) c d (side_behind x)
        (spares_frame (region_of x) (other_side x.side) c d same) x.paired x.behind r.0.behind;
  },
  r.1,
  same_version x c d front r.2,
)

pub t_seen_frame : (p : Part) (x : Guest) (c d : Content)
    → SameOn (region_of x).base (35328 + (region_of x).size) c d → guest_seen p x c
    → guest_seen p x d
t_seen_frame p x c d same s =
    grind (arith, behind_beside, behind_seen_beside, row_frame, seen_frame)

ordered_version : (x : Guest) (n : ℕ) (c : Content) (slot behind : Option Slot) → IsOfVersion x c
    → IsOfVersion (moved_up x n slot behind) c
ordered_version x n c slot behind v = grind arith

pub t_synced : (p : Part) (x : Guest) (c : Content) → guest_row p x c → guest_seen p x c
    → guest_row (guest_settled x p) (guest_after_sync x) c
t_synced p x c r s = (let both = (sync_goes p x c x.slot x.behind (r.0, r.1) s).0 in
    (both.0, both.1, ordered_version x (marked x) c (after_sync x.slot) (after_sync x.behind) r.2))

pub t_synced_seen : (p : Part) (x : Guest) (c : Content) → guest_row p x c → guest_seen p x c
    → guest_seen (guest_settled x p) (guest_after_sync x) c
t_synced_seen p x c r s = (sync_goes p x c x.slot x.behind (r.0, r.1) s).1

-- a guest stays where it stands
moved_region : (t : Turn) (x : Guest) → region_of (moved_in t x) ≡ region_of x
moved_region t x = grind arith

pub region_moved : (x : Guest) → region_of (guest_after_write x) ≡ region_of x
region_moved x = moved_region (turn_of x) x

ordered_region : (x : Guest) (n : ℕ) (slot behind : Option Slot)
    → region_of (moved_up x n slot behind) ≡ region_of x
ordered_region x n slot behind = grind arith

pub region_synced : (x : Guest) → region_of (guest_after_sync x) ≡ region_of x
region_synced x = ordered_region x (marked x) (after_sync x.slot) (after_sync x.behind)
