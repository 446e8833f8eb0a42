-- A sync of a guest's two slots, each in its phase.
use Rattle.std.proofs.Common.{◌≡◌, ◌≢◌, ◌⊎◌, inl, inr, Bool, true, false, Option, Some, None, ℕ}
use Rattle.std.proofs.Common.{◌+◌, refl, ap, sym, ◌∙◌, subst, arith}
use Rattle.flusher.proofs.Common.{if◌then◌else◌, Content, Side, A, Region, SlotRegion, slot_region}
use Rattle.flusher.proofs.Common.{other_side, Group, Intent, Part, HoldsHome, Phase, Given, Written}
use Rattle.flusher.proofs.Common.{Ready, Opening, Open, Applying, Applied, Closing, Slot, Guest}
use Rattle.flusher.proofs.Common.{skipped, is_opening, is_settled, after_sync, in_phase, pending_of}
use Rattle.flusher.proofs.Common.{opening_in, or_else, with_slots, moved_up}
use Rattle.flusher.proofs.Common.{guest_after_sync, side_of, side_behind, IsShut, Row, Seen, Behind}
use Rattle.flusher.proofs.Common.{BehindRow, LeadsTo, LeadsBy, PhaseBesides, Follows}
use Rattle.flusher.proofs.Common.{IsMarked, PairRow, guest_seen, settled, settled_with}
use Rattle.flusher.proofs.Common.{sequence_of_part, guest_settled}
use Rattle.flusher.specs.Phase.{synced, is_closing}
use Rattle.flusher.specs.Pair.{mark_after}
use Rattle.flusher.proofs.Rows.{synced_row, synced_seen}
use Rattle.flusher.proofs.Pairs.{promoted_row, promoted_seen, behind_synced, behind_synced_seen}
use Rattle.flusher.proofs.Turns.{quiet_behind}

-- 1. Words

pub or_none : (o : Option Group) → or_else o None ≡ o
or_none o = grind arith

pub twice : (side : Side) → other_side (other_side side) ≡ side
twice side = grind arith

-- a sync lets a slot go once its gate is shut, else it stays
pub record Stays (s : Slot) : Type 0 where
  pub next : Phase
  pub is : synced s.phase s.intent.group ≡ Some next

abbrev pub staying : (s : Slot) → Stays s → Slot
staying s st = record { phase = st.next; intent = s.intent }

pub stays_there : (s : Slot) (st : Stays s) → after_sync (Some s) ≡ Some (staying s st)
stays_there s st = ap (in_phase s.intent) st.is

pub stays_or_closes : (s : Slot) → (s.phase ≡ Closing) ⊎ Stays s
stays_or_closes s = by s.phase refl
  where
    at : (phase next : Phase) → s.phase ≡ phase → synced phase s.intent.group ≡ Some next → Stays s
    at phase next here is = record {
      next = next;
      is =
          ap (λ (v : Phase). synced v s.intent.group) here ∙ is;
    }

    by : (phase : Phase) → s.phase ≡ phase → (s.phase ≡ Closing) ⊎ Stays s
    by Given here = inr (at Given Given here refl)
    by Written here = inr (at Written Ready here refl)
    by Ready here = inr (at Ready Ready here refl)
    by Opening here = inr (at Opening (Open (skipped s.intent.group.entries)) here refl)
    by (Open k) here = inr (at (Open k) (Open k) here refl)
    by Applying here = inr (at Applying Applied here refl)
    by Applied here = inr (at Applied Applied here refl)
    by Closing here = inl here

pub stays_not : (s : Slot) → Stays s → s.phase ≢ Closing
stays_not s st is = (let gone : synced s.phase s.intent.group ≡ None =
    ap (λ (v : Phase). synced v s.intent.group) is in absurd (cc))

-- 2. Marks

-- an intent that isn't settled still follows
follows_first : (n : ℕ) (phase : Phase) (i : Intent) (o : Option Group)
    → (is_closing phase ≡ false → o ≡ None) → Follows n (if is_settled phase then None else Some i)
    → Follows (mark_after (or_else (if is_opening phase then Some i.group else None) o) n)
    (pending_of (in_phase i (synced phase i.group)))
follows_first n phase i o none f = grind arith

-- 3. The rows

abbrev opening_if : Bool → Group → Option Group
opening_if opening i = if opening then Some i else None

settled_quiet : (phase : Phase) → is_settled phase ≡ true → is_opening phase ≡ false
settled_quiet phase is = grind arith

quiet_is : (opening : Bool) (i : Group) → opening_if opening i ≡ None → opening ≡ false
quiet_is opening i is = grind arith

same_leads : (o : Option Group) (between p : Part) → between ≡ p → settled_with o between
    ≡ settled_with (or_else o None) p
same_leads o between p is = ap (settled_with o) is
    ∙ ap (λ (v : Option Group). settled_with v p) (sym (or_none o))

leads_synced : (first phase : Phase) (i : Group) (j : Intent) (between p : Part) → first ≢ Closing
    → PhaseBesides first phase → LeadsBy (is_settled phase) between j.group p
    → LeadsTo (settled_with (opening_if (is_opening first) i) between)
    (in_phase j (synced phase j.group))
    (settled_with (or_else (opening_if (is_opening first) i)
    (opening_if (is_opening phase) j.group)) p)
leads_synced first phase i j between p un b l = grind arith

pub from_row : (pair : Bool) (region : Region) (side : SlotRegion) (s : Slot) (c : Content)
    → Behind pair region side (Some s) c → BehindRow region side s.phase s.intent.group c
from_row pair region side s c b = grind arith

shut_behind : (pair : Bool) (region : Region) (side : SlotRegion) (c : Content) → IsShut side c
    → Behind pair region side None c
shut_behind pair region side c shut = grind arith

-- the rows of both slots, and the marks
abbrev pub two_row : Part → Guest → Content → Type 0
two_row p x c = PairRow p x c × IsMarked p x

module _ (p : Part) (x : Guest) (c : Content) where
  abbrev Goes : Option Slot → Option Slot → Type 0
  Goes slot behind = two_row p (with_slots x slot behind) c
      → guest_seen p (with_slots x slot behind) c
      → two_row (guest_settled (with_slots x slot behind) p)
      (guest_after_sync (with_slots x slot behind)) c
      × guest_seen (guest_settled (with_slots x slot behind) p)
      (guest_after_sync (with_slots x slot behind)) c

  rests : IsShut (side_of x) c → HoldsHome x.extent c p
      → Behind x.paired x.extent (side_behind x) None c → x.mark ≡ sequence_of_part p
      → (x.paired ≡ false → x.side ≡ A)
      → two_row p (moved_up x x.mark None None) c × guest_seen p (moved_up x x.mark None None) c
  rests mine held theirs mark single = grind arith

  empty_goes : Goes None None
  empty_goes r s = rests s.row.0 (subst (HoldsHome x.extent c) s.leads s.row.1) s.behind r.1.mark
      (λ un. (r.1.ordered.single un).side)

  closed_goes : (i : Intent) → Goes (Some (record { phase = Closing; intent = i })) None
  closed_goes i r s = rests s.seen (subst (HoldsHome x.extent c) s.leads s.row.2) s.behind r.1.mark
      (λ un. (r.1.ordered.single un).side)

  -- the first one is empty now, and the one behind it takes its place
  promoted_goes : (i : Intent) (b : Slot) → Goes (Some (record { phase = Closing; intent = i }))
      (Some b)
  promoted_goes i b r s = elim (stays_or_closes b) [
    | inl closing ↦ absurd (subst (λ (v : Phase).
        BehindRow x.extent (side_behind x) v b.intent.group c) closing below)
    | inr st ↦ (
        let go : Option Slot → Type 0 = λ o.
        two_row (settled (Some b) p) (moved_up x (mark_after (opening_in (Some b)) x.mark) None
        o) c × guest_seen (settled (Some b) p)
        (moved_up x (mark_after (opening_in (Some b)) x.mark) None o) c in
        let shut : Behind x.paired x.extent (slot_region x.extent (other_side (other_side x.side)))
        None c =
        subst (λ (v : Side). Behind x.paired x.extent (slot_region x.extent v) None c)
        (sym (twice x.side)) (shut_behind x.paired x.extent (side_of x) c s.seen) in
        let here = subst (λ (o : Option Slot). Row x.extent (side_behind x) (settled (Some b) p) o
        c) (stays_there b st) row_after in
        let seen = subst (λ (o : Option Slot). Seen x.extent (side_behind x) (settled (Some b) p) o
        c) (stays_there b st) seen_after in
        let nothing : x.mark + 0 ≡ x.mark = omega arith in
        let f = subst (λ (n : ℕ). Follows n (pending_of (Some b))) nothing r.1.next_follows in
        let g = subst (λ (o : Option Group).
        Follows (mark_after o x.mark) (pending_of (after_sync (Some b))))
        (or_none (opening_in (Some b))) (follows_first x.mark b.phase b.intent None (λ un. refl)
        f) in
        let marks : IsMarked (settled (Some b) p)
        (moved_up x (mark_after (opening_in (Some b)) x.mark) None (Some (staying b st))) =
        grind arith in
        subst go (sym (stays_there b st)) (
          (record { between = settled (Some b) p; leads = refl; row = here; behind = shut }, marks),
          record {
            between = settled (Some b) p;
            leads = refl;
            row = here;
            seen = seen;
            behind =
                shut;
            behind_seen = tt;
          },
        ))
  ]
    where
      below : BehindRow x.extent (side_behind x) b.phase b.intent.group c
      below = from_row x.paired x.extent (side_behind x) b c s.behind

      row : Row x.extent (side_behind x) p (Some b) c
      row = promoted_row x.extent (side_behind x) p s.between b c s.row.2 below s.leads

      seen_row : Seen x.extent (side_behind x) p (Some b) c
      seen_row = promoted_seen x.extent (side_behind x) p s.between b c s.row.2 below s.behind_seen
          s.leads

      row_after : Row x.extent (side_behind x) (settled (Some b) p) (after_sync (Some b)) c
      row_after = synced_row x.extent (side_behind x) p (Some b) c row seen_row

      seen_after : Seen x.extent (side_behind x) (settled (Some b) p) (after_sync (Some b)) c
      seen_after = synced_seen x.extent (side_behind x) p (Some b) c row seen_row

  module _ (f : Slot) (st : Stays f) where
    abbrev to : Slot
    to = staying f st

    -- the first one stays, alone
    alone_goes : Goes (Some f) None
    alone_goes r s =
        let o = or_else (opening_in (Some f)) None in
        let row = subst (λ (v : Option Slot). Row x.extent (side_of x) (settled (Some f) s.between)
        v c) (stays_there f st) (synced_row x.extent (side_of x) s.between (Some f) c s.row
        s.seen) in
        let seen = subst (λ (v : Option Slot).
        Seen x.extent (side_of x) (settled (Some f) s.between) v c) (stays_there f st)
        (synced_seen x.extent (side_of x) s.between (Some f) c s.row s.seen) in
        let leads = same_leads (opening_in (Some f)) s.between p s.leads in
        let marks : IsMarked (settled_with o p) (moved_up x (mark_after o x.mark) (Some to) None) =
        grind arith in
        subst (λ (v : Option Slot).
        two_row (settled_with o p) (moved_up x (mark_after o x.mark) v None) c
        × guest_seen (settled_with o p) (moved_up x (mark_after o x.mark) v None) c)
        (sym (stays_there f st)) (
          (
            record {
              between = settled (Some f) s.between;
              leads = leads;
              row = row;
              behind =
                  s.behind;
            },
            marks,
          ),
          record {
            between = settled (Some f) s.between;
            leads = leads;
            row = row;
            seen = seen;
            behind = s.behind;
            behind_seen = tt;
          },
        )

    -- both stay
    both_go : (b : Slot) → Goes (Some f) (Some b)
    both_go b r s =
        let o = or_else (opening_in (Some f)) (opening_in (Some b)) in
        let none : opening_in (Some b) ≡ None =
        quiet_behind f (Some b) (stays_not f st) r.1.ordered.besides in
        let quiet : is_opening b.phase ≡ false = quiet_is (is_opening b.phase) b.intent.group none
        in
        let below = from_row x.paired x.extent (side_behind x) b c s.behind in
        let row = subst (λ (v : Option Slot). Row x.extent (side_of x) (settled (Some f) s.between)
        v c) (stays_there f st) (synced_row x.extent (side_of x) s.between (Some f) c s.row
        s.seen) in
        let seen = subst (λ (v : Option Slot).
        Seen x.extent (side_of x) (settled (Some f) s.between) v c) (stays_there f st)
        (synced_seen x.extent (side_of x) s.between (Some f) c s.row s.seen) in
        let leads = leads_synced f.phase b.phase f.intent.group b.intent s.between p
        (stays_not f st) r.1.ordered.besides s.leads in
        let behind = behind_synced x.extent (side_behind x) b c quiet below s.behind_seen x.paired
        in
        let behind_seen = behind_synced_seen x.extent (side_behind x) b c quiet below s.behind_seen
        in
        let chain = r.1.ordered.chained in
        let marks : IsMarked (settled_with o p)
        (moved_up x (mark_after o x.mark) (Some to) (after_sync (Some b))) = grind arith in
        subst (λ (v : Option Slot).
        two_row (settled_with o p) (moved_up x (mark_after o x.mark) v (after_sync (Some b))) c
        × guest_seen (settled_with o p)
        (moved_up x (mark_after o x.mark) v (after_sync (Some b))) c) (sym (stays_there f st)) (
          (
            record {
              between = settled (Some f) s.between;
              leads = leads;
              row = row;
              behind =
                  behind;
            },
            marks,
          ),
          record {
            between = settled (Some f) s.between;
            leads = leads;
            row = row;
            seen = seen;
            behind = behind;
            behind_seen = behind_seen;
          },
        )

  closing_goes : (i : Intent) (behind : Option Slot)
      → Goes (Some (record { phase = Closing; intent = i })) behind
  closing_goes i None = closed_goes i
  closing_goes i (Some b) = promoted_goes i b

  staying_goes : (f : Slot) → Stays f → (behind : Option Slot) → Goes (Some f) behind
  staying_goes f st None = alone_goes f st
  staying_goes f st (Some b) = both_go f st b

  pub sync_goes : (slot behind : Option Slot) → Goes slot behind
  sync_goes None None = empty_goes
  sync_goes None (Some b) = λ r s. absurd r.1.ordered.besides
  sync_goes (Some f) behind = elim (stays_or_closes f) [
    | inl closing ↦ subst (λ (v : Phase). Goes (Some (record { phase = v; intent = f.intent }))
        behind) (sym closing) (closing_goes f.intent behind)
    | inr st ↦ staying_goes f st behind
  ]
