-- A guest of the store, as a call finds it, and as one is given an intent.
use Rattle.std.proofs.Common.{◌≡◌, ◌<◌, ◌≤◌, ℕ, ◌+◌, Bool, true, false, List, length, length-set}
use Rattle.std.proofs.Common.{get_or, Option, Some, None, refl, ap, sym, ◌∙◌, subst, arith, ⊎_elim}
use Rattle.flusher.proofs.Common.{slice_get, slice_set, if◌then◌else◌, slice_get-get_or}
use Rattle.flusher.proofs.Common.{slice_get_within, Content, DiskState, MayLeave, Region, end_of}
use Rattle.flusher.proofs.Common.{Intent, GroupFits, Part, Guest, Slot, is_empty, intent_of}
use Rattle.flusher.proofs.Common.{pending_of, has_room, region_of, side_behind, mark_of}
use Rattle.flusher.proofs.Common.{with_intent, with_slots, given_at, entries_in, marks_of}
use Rattle.flusher.proofs.Common.{IsOfVersion, Behind, Besides, IsHeld, guest_row, guest_seen}
use Rattle.flusher.proofs.Common.{AllFit, GuestFits, given_of, next_of, next_sequence}
use Rattle.flusher.proofs.Syncs.{two_row}
use Rattle.flusher.specs.Pair.{given_slot}
use Rattle.flusher.specs.Store.{Gives, HasSameKey, given, is_free, is_free_of, Fits, FitsOf}
use Rattle.flusher.specs.Store.{FitsGuest}
use Rattle.flusher.proofs.Blocks.{none_past}
use Rattle.flusher.proofs.Guests.{set_cases, get_set_same, get_set_other, map_set}

-- the guest that stands there
pub found : (xs ys : List Guest) (g k : ℕ) (x : Guest) → ys ≡ xs → k ≡ g → k < length ys
    → x ≡ get_or ys k x → slice_get xs g ≡ Some x
found xs ys g k x same at below is = grind (arith, slice_get-get_or)

-- none stands there
pub absent : (xs ys : List Guest) (g k : ℕ) → ys ≡ xs → k ≡ g → length ys ≤ k
    → slice_get xs g ≡ None
absent xs ys g k same at past = grind (arith, none_past)

pub given_region : (x : Guest) (i : Intent) (slot : Option Slot) → region_of (given_at x i slot)
    ≡ region_of x
given_region x i slot = grind arith

pub given_mark : (x : Guest) (i : Intent) (slot : Option Slot) → mark_of (given_at x i slot)
    ≡ mark_of x
given_mark x i slot = grind arith

given_version : (x : Guest) (i : Intent) (c : Content) (slot : Option Slot) → IsOfVersion x c
    → IsOfVersion (given_at x i slot) c
given_version x i c slot v = grind arith

-- the row of a guest with an intent given
module _ (p : Part) (x : Guest) (i : Intent) (c : Content) where
  abbrev Goes : Option Slot → Option Slot → Type 0
  Goes slot behind = (if x.paired then is_empty behind else is_empty slot) ≡ true
      → GroupFits x.extent.size i.group → HasSameKey (intent_of slot) i
      → i.group.first + 1 ≡ x.mark +
      (length (entries_in (pending_of slot)) + length (entries_in (pending_of behind))) + 1
      → two_row p (with_slots x slot behind) c
      → two_row p (given_at (with_slots x slot behind) i slot) c

  abbrev SeenGoes : Option Slot → Option Slot → Type 0
  SeenGoes slot behind = (if x.paired then is_empty behind else is_empty slot) ≡ true
      → GroupFits x.extent.size i.group → Besides slot behind
      → guest_seen p (with_slots x slot behind) c
      → guest_seen p (given_at (with_slots x slot behind) i slot) c

  full : (pair : Bool) → (if pair then false else false) ≡ true → ⊥
  full pair is = grind arith

  paired_is : (pair : Bool) → (if pair then true else false) ≡ true → pair ≡ true
  paired_is pair is = grind arith

  beside : (pair : Bool) → pair ≡ true → Behind pair x.extent (side_behind x) None c
      → GroupFits x.extent.size i.group → Behind pair x.extent (side_behind x) (given_slot i) c
  beside pair is b fits = grind arith

  row_goes : (slot behind : Option Slot) → Goes slot behind
  row_goes None None room fits key next r = grind arith
  row_goes None (Some b) room fits key next r = absurd r.1.ordered.besides
  row_goes (Some f) None room fits key next r = grind arith
  row_goes (Some f) (Some b) room fits key next r = absurd (full x.paired room)

  seen_goes : (slot behind : Option Slot) → SeenGoes slot behind
  seen_goes None None room fits be s = record {
    between = s.between;
    leads = s.leads;
    row =
        (s.row.0, s.row.1, fits);
    seen = tt;
    behind = s.behind;
    behind_seen = tt;
  }
  seen_goes None (Some b) room fits be s = absurd be
  seen_goes (Some f) None room fits be s = record {
    between = s.between;
    leads = s.leads;
    row =
        s.row;
    seen = s.seen;
    behind = beside x.paired (paired_is x.paired room) s.behind fits;
    behind_seen = tt;
  }
  seen_goes (Some f) (Some b) room fits be s = absurd (full x.paired room)

  given_row : has_room x ≡ true → FitsGuest x i → i.group.first + 1 ≡ next_of (Some x)
      → guest_row p x c → guest_row p (with_intent x i) c
  given_row room fits next r =
      (let both = row_goes x.slot x.behind room fits.inside fits.key next (r.0, r.1) in
      (both.0, both.1, given_version x i c x.slot r.2))

  given_seen : has_room x ≡ true → FitsGuest x i → guest_row p x c → guest_seen p x c
      → guest_seen p (with_intent x i) c
  given_seen room fits r s = seen_goes x.slot x.behind room fits.inside r.1.ordered.besides s

given_fits : (len : ℕ) (x : Guest) (i : Intent) (slot behind : Option Slot)
    → (if x.paired then is_empty behind else is_empty slot) ≡ true → GroupFits x.extent.size i.group
    → GuestFits len i.guest (with_slots x slot behind)
    → GuestFits len i.guest (given_at (with_slots x slot behind) i slot)
given_fits len x i slot behind room fits old = grind arith

module _ (parts : ℕ → Part) (xs : List Guest) (broken : Bool) (s : DiskState) (i : Intent)
    (x : Guest) (at : slice_get xs i.guest ≡ Some x) (room : has_room x ≡ true)
    (fits : FitsGuest x i) (next : i.group.first + 1 ≡ next_of (Some x))
    (held : IsHeld parts xs broken s) where
  abbrev new : Guest
  new = with_intent x i

  stood : (h : ℕ) (y : Guest) → slice_get (slice_set xs i.guest new) h ≡ Some y → (z : Guest)
      × (slice_get xs h ≡ Some z) × (region_of y ≡ region_of z)
  stood h y here = grind (arith, set_cases)

  row_given : (h : ℕ) (y : Guest) → slice_get (slice_set xs i.guest new) h ≡ Some y → (c : Content)
      → MayLeave s c → guest_row (parts h) y c
  row_given h y here c left = ⊎_elim
      (λ e. subst (λ (v : Guest). guest_row (parts h) v c) (sym e.1)
      (subst (λ (v : ℕ). guest_row (parts v) new c) (sym e.0)
      (given_row (parts i.guest) x i c room fits next (held.rows i.guest x at c left))))
      (λ e. held.rows h y e.1 c left)
      (set_cases xs i.guest h new y here)

  seen_given : broken ≡ false → (h : ℕ) (y : Guest) → slice_get (slice_set xs i.guest new) h
      ≡ Some y → guest_seen (parts h) y s.seen
  seen_given whole h y here = grind (arith, given_seen, set_cases)

  held_given : IsHeld parts (slice_set xs i.guest new) broken s
  held_given = record {
    known = held.known;
    fits = λ h y here. (let z = stood h y here in let old = held.fits h z.0 z.1 in
        subst (λ (v : Region). end_of v ≤ s.len) (sym z.2) old);
    apart = λ h k y y' other here there. grind (arith, here, stood);
    rows = row_given;
    seen_rows = seen_given;
  }

below_of : (xs : List Guest) (g : ℕ) (o : Option Guest) → slice_get xs g ≡ o → is_free_of o ≡ true
    → g < length xs
below_of xs g o at free = grind (arith, slice_get_within)

module _ (xs v : List Guest) (i : Intent) (k : ℕ) (x y : Guest) (same : xs ≡ v) (at : k ≡ i.guest)
    (is : x ≡ get_or xs k x) (free : is_free v i.guest ≡ true) (moved : y ≡ with_intent x i) where
  -- the guest that is given it stands there
  here : slice_get v i.guest ≡ Some x
  unfolding is_free
  here = (let below = below_of v i.guest (slice_get v i.guest) refl free in
      found v xs i.guest k x same at (let l = ap length same in omega (arith, at)) is)

  -- the guests with it given
  pub given_there : slice_set xs k y ≡ given v i
  unfolding given
  given_there = ap (λ (l : List Guest). slice_set l k y) same ∙ ap (λ (n : ℕ). slice_set v n y) at
      ∙ ap (slice_set v i.guest) moved ∙ sym (ap (given_of v i) here)

  its_own : (z : Guest) → slice_get v i.guest ≡ Some z
      → slice_get (slice_set v i.guest (with_intent x i)) i.guest ≡ Some (with_intent z i)
  its_own z is_z = (let e : x ≡ z = (let h = here in cc) in
      get_set_same v i.guest z (with_intent x i) is_z
      ∙ ap (λ (w : Guest). Some (with_intent w i)) e)

  -- What giving makes of the guests.
  pub gives_it : Gives i v (slice_set xs k y)
  unfolding marks_of
  gives_it = grind (arith, get_set_other, here, its_own, length-set, map_set)

  -- A guest whose slot is empty is given an intent.
  pub gives : (parts : ℕ → Part) (broken : Bool) (s : DiskState) → Fits v i
      → i.group.first + 1 ≡ next_sequence v i.guest → IsHeld parts v broken s
      → IsHeld parts (slice_set xs k y) broken s
  unfolding is_free next_sequence
  gives parts broken s fits next held =
      let room = sym (ap is_free_of here) ∙ free in
      let good = subst (λ (o : Option Guest). FitsOf o i) here fits in
      let all = held_given parts v broken s i x here room good (next ∙ ap next_of here) held in
      subst (λ (n : ℕ). IsHeld parts (slice_set xs n y) broken s) (sym at)
      (subst (λ (l : List Guest). IsHeld parts (slice_set l i.guest y) broken s) (sym same)
      (subst (λ (w : Guest). IsHeld parts (slice_set v i.guest w) broken s) (sym moved) all))

  -- it fits there
  pub still_fits : (len : ℕ) → AllFit len v → Fits v i → AllFit len (slice_set xs k y)
  unfolding is_free
  still_fits len all fits =
      let good = subst (λ (o : Option Guest). FitsOf o i) here fits in
      let old = all.each i.guest x here in
      let room = sym (ap is_free_of here) ∙ free in
      let mine = given_fits len x i x.slot x.behind room good.inside old in
      let whole : AllFit len (slice_set v i.guest (with_intent x i)) = record {
        each = λ g z there. ⊎_elim
            (λ e. subst (λ (w : Guest). GuestFits len g w) (sym e.1)
            (subst (λ (n : ℕ). GuestFits len n (with_intent x i)) (sym e.0) mine))
            (λ e. all.each g z e.1)
            (set_cases v i.guest g (with_intent x i) z there);
      } in
      subst (λ (n : ℕ). AllFit len (slice_set xs n y)) (sym at)
      (subst (λ (l : List Guest). AllFit len (slice_set l i.guest y)) (sym same)
      (subst (λ (w : Guest). AllFit len (slice_set v i.guest w)) (sym moved) whole))
