-- The flusher's calls keep the partitions, and what it gives to the store comes after them.
use Rattle.std.proofs.Common.{◌≡◌, ◌⊎◌, inl, inr, ◌∙◌, ℕ, suc, ◌+◌, ◌≤◌, ◌<◌, ◌^◌, Bool, true}
use Rattle.std.proofs.Common.{false, List, [], ◌∷◌, ◌++◌, Option, Some, None, Result, Ok, Err}
use Rattle.std.proofs.Common.{length, take, drop, refl, ap, ap₂, sym, subst, arith, append_assoc}
use Rattle.std.proofs.Common.{append-nil, length-append}
use Rattle.std.specs.Prelude.{IfOk, if◌then◌else◌, ◌==◌, slice_get, slice_set}
use Rattle.std.proofs.lemmas.Bool.{cases_eq}
use Rattle.std.proofs.lemmas.Bool.Decides.{nat_tests}
use Rattle.std.proofs.lemmas.List.{drop-append-le, take-append-drop, take-append-le}
use Rattle.std.proofs.lemmas.Option.{slice_get_cases, slice_get_within}
use Rattle.disk.specs.Disk.{DiskCall, DiskState, Effect, HasRisen, Still, Within}
use Rattle.disk.proofs.Ways.{within_more, within_weaker}
use Rattle.intent_slots.specs.Payload.{Group, GroupFits, Intent}
use Rattle.intent_slots.specs.Recovered.{Part, Stands, after}
use Rattle.flusher.specs.declared.guest.Guest.{Guest}
use Rattle.flusher.specs.Progress.{Progress}
use Rattle.flusher.specs.declared.progress.StoreFault.{StoreFault}
use Rattle.flusher.specs.Laws.{IsUnderWay, Settles}
use Rattle.flusher.specs.Pair.{entries_in, guest_after_sync, guest_after_write, has_room, listed}
use Rattle.flusher.specs.Pair.{mark_after, mark_of, opening_of, pending_intents, with_intent}
use Rattle.flusher.specs.Round.{FrontStays, MovedBy, Moves, Round, parts_after, planned, settles}
use Rattle.flusher.specs.Round.{under_way}
use Rattle.flusher.specs.SlotInvariant.{BeforeOrAfter, Besides, EachStop, Follows, IsHeld, IsMarked}
use Rattle.flusher.specs.SlotInvariant.{guest_settled, sequence_of_part, settled_by, settled_with}
use Rattle.flusher.specs.Store.{FitsOf, Gives, MayGive, StoreState, is_free, is_free_of, next_of}
use Rattle.flusher.specs.Store.{next_sequence, pending}
use Rattle.flusher.specs.Slot.{pending_of}
use Rattle.flusher.specs.Pair.{region_of}
use Rattle.flusher.proofs.Guests.{get_set_other, get_set_same}
use Rattle.flusher.proofs.Kept.{stops}
use Rattle.flusher.proofs.Lookups.{given_region}
use Rattle.flusher.proofs.Pending.{pending_grows, pending_settles, pending_stays, write_keeps}
use Rattle.flusher.proofs.Table.{region_moved, region_synced}
use Rattle.flusher.proofs.UnderWay.{as_many_under_way, under_way_by_guest}
use Rattle.board.proofs.Headers.{header_still, header_twice}
use Rattle.board.proofs.Moving.{ended, failed_round, shown_round}
use Rattle.workers.proofs.InTurn.{done_after, more_in_turn, next_done, rest_in_turn, two_more}
use Rattle.workers.specs.Keeping.{AreNext, ComesNext, IsAfterSome, IsAhead, IsInTurn, Keeps}
use Rattle.workers.specs.Keeping.{KeyedStore, LeavesWhole, LetsKey, Reaches, after_all, to_keep}

pub if_ok_weaker : {X E : Type 0} {P Q : X → Type 0} (r : Result X E) → ((x : X) → P x → Q x)
    → IfOk r P → IfOk r Q
if_ok_weaker (Ok x) f is = f x is
if_ok_weaker (Err e) f is = tt

-- 1. One guest

pub ahead_begins : (p : Part) (x : Guest) → IsAhead p x [] p x
ahead_begins p x = record {
  count = 0;
  within = omega arith;
  is = refl;
  left = sym (append-nil (pending_intents x));
  region = refl;
  marks = omega arith;
}

ahead_wrote : (p : Part) (x : Guest) (given : List Intent) (s : Part) (y : Guest)
    → IsAhead p x given s y → IsAhead p x given s (guest_after_write y)
ahead_wrote p x given s y a =
    let stays = pending_stays y in
    let marks = a.marks in
    let mark = stays.1 in
    record {
      count = a.count;
      within = a.within;
      is = a.is;
      left = stays.0 ∙ a.left;
      region = region_moved y ∙ a.region;
      marks = omega (arith, marks, mark);
    }

ahead_moved : (p : Part) (x : Guest) (given : List Intent) (s : Part) (was y : Guest) → (y ≡ was)
    ⊎ (y ≡ guest_after_write was) → IsAhead p x given s was → IsAhead p x given s y
ahead_moved p x given s was y (inl same) a = subst (IsAhead p x given s) (sym same) a
ahead_moved p x given s was y (inr wrote) a =
    subst (IsAhead p x given s) (sym wrote) (ahead_wrote p x given s was a)

-- the first intent in its slots comes next after the mark
first_follows : (m : ℕ) (a b : Option Intent) (i : Intent) (rest : List Intent) → Follows m a
    → Follows (m + length (entries_in a)) b → listed a ++ listed b ≡ i ∷ rest → i.group.first ≡ m
first_follows m None None i rest f s is = absurd (cc)
first_follows m None (Some j) i rest f s is =
    (let same : j ≡ i = cc in let first = ap (λ (v : Intent). v.group.first) same in
    omega (arith, first, s))
first_follows m (Some j) b i rest f s is =
    (let same : j ≡ i = cc in let first = ap (λ (v : Intent). v.group.first) same in
    omega (arith, first, f))

ahead_synced : (p : Part) (x : Guest) (given : List Intent) (s : Part) (y : Guest)
    → IsAhead p x given s y → IsMarked s y
    → IsAhead p x given (guest_settled y s) (guest_after_sync y)
ahead_synced p x given s y a m = (let settles = pending_settles y m.ordered.besides in
    by (opening_of y) settles.0 settles.1)
  where
    by : (o : Option Group) → Settles o (pending_intents y) (pending_intents (guest_after_sync y))
        → mark_of (guest_after_sync y) ≡ mark_after o (mark_of y)
        → IsAhead p x given (settled_with o s) (guest_after_sync y)
    by None same mark = (let marks = a.marks in record {
      count = a.count;
      within = a.within;
      is = a.is;
      left = same ∙ a.left;
      region = region_synced y ∙ a.region;
      marks = omega (arith, marks, mark);
    })
    by (Some g) settled mark =
        let one = next_done p a.count (to_keep x given) (pending_intents (guest_after_sync y))
        settled.0 (sym a.left ∙ settled.1) in
        let first = first_follows y.mark _ _ settled.0 (pending_intents (guest_after_sync y))
        m.follows m.next_follows settled.1 in
        let group = ap (λ (v : Group). v.first) settled.2 in
        let marks = a.marks in
        record {
          count = suc a.count;
          within = one.0;
          is = ap (λ (v : Part). after v g) a.is
              ∙ ap (after (after_all p (take a.count (to_keep x given)))) (sym settled.2)
              ∙ sym one.1;
          left = sym one.2;
          region = region_synced y ∙ a.region;
          marks = omega (arith, marks, mark, first, group);
        }

ahead_given : (p : Part) (x : Guest) (given : List Intent) (s : Part) (y : Guest) (i : Intent)
    → has_room y ≡ true → Besides y.slot y.behind → IsAhead p x given s y
    → IsAhead p x (given ++ i ∷ []) s (with_intent y i)
ahead_given p x given s y i room besides a =
    let grows = pending_grows y i room besides in
    let all = append_assoc (pending_intents x) given (i ∷ []) in
    let within = a.within in
    let long = length-append (to_keep x given) (i ∷ []) in
    let same = ap length all in
    let marks = a.marks in
    let mark = grows.1 in
    record {
      count = a.count;
      within = omega (arith, within, long, same);
      is = a.is ∙ ap (after_all p) (sym (take-append-le a.count (to_keep x given) (i ∷ []) within))
          ∙ ap (λ l. after_all p (take a.count l)) all;
      left = grows.0 ∙ ap (λ l. l ++ i ∷ []) a.left
          ∙ sym (drop-append-le a.count (to_keep x given) (i ∷ []) within) ∙ ap (drop a.count) all;
      region = given_region y i y.slot ∙ a.region;
      marks = omega (arith, marks, mark);
    }

-- an intent that may be given comes next after all that the guest is to keep
comes_next : (g : ℕ) (p : Part) (x y : Guest) (given : List Intent) (s : Part) (i : Intent)
    (key : Option (Option (List ℕ))) → IsAhead p x given s y → IsMarked s y
    → IsInTurn g p x (to_keep x given) key → i.guest ≡ g
    → i.group.first + 1 ≡ y.mark + pending y + 1 → GroupFits (region_of y).size i.group
    → LetsKey key i.group.key → ComesNext g (region_of x).size (after_all p (to_keep x given)) i
comes_next g p x y given s i key a m t own first fits lets =
    let xs = to_keep x given in
    let settled : after_all p xs ≡ after_all s (pending_intents y) =
    ap (after_all p) (sym (take-append-drop a.count xs))
    ∙ done_after p (take a.count xs) (drop a.count xs)
    ∙ ap (λ q. after_all q (drop a.count xs)) (sym a.is) ∙ ap (after_all s) (sym a.left) in
    let rest : AreNext g (region_of x).size s (pending_intents y) =
    subst (λ q. AreNext g (region_of x).size q (pending_intents y)) (sym a.is)
    (subst (λ l. AreNext g (region_of x).size (after_all p (take a.count xs)) l) (sym a.left)
    (rest_in_turn g (region_of x).size p a.count xs t.each)) in
    let sum = two_more g (region_of x).size s (pending_of y.slot) (pending_of y.behind) rest in
    let sequences = ap sequence_of_part settled in
    let mark = m.mark in
    record {
      own = own;
      follows = omega (arith, first, sum, sequences, mark);
      key = subst (λ o. LetsKey o i.group.key) t.key lets;
      fits = subst (λ r. GroupFits r.size i.group) a.region fits;
    }

in_turn_given : (g : ℕ) (p : Part) (x : Guest) (given : List Intent) (i : Intent)
    (key now : Option (Option (List ℕ))) → IsInTurn g p x (to_keep x given) key
    → ComesNext g (region_of x).size (after_all p (to_keep x given)) i
    → now ≡ Some (Some i.group.key)
    → IsInTurn g p x (to_keep x (given ++ i ∷ [])) now
in_turn_given g p x given i key now t next is =
    subst (λ l. IsInTurn g p x l now) (append_assoc (pending_intents x) given (i ∷ [])) (record {
      each = more_in_turn g (region_of x).size p (to_keep x given) i t.each next;
      key = is ∙ ap (λ (q : Part). Some q.key) (sym (done_after p (to_keep x given) (i ∷ [])));
    })

-- what a stop leaves of it
after_some : (p : Part) (x : Guest) (given : List Intent) (s : Part) (y : Guest) (q : Part)
    → IsAhead p x given s y → Besides y.slot y.behind → BeforeOrAfter s (opening_of y) q
    → mark_of y ≤ sequence_of_part q
    → IsAfterSome p (to_keep x given) (mark_of x) q
after_some p x given s y q a besides may marked = by (opening_of y) (pending_settles y besides).0
    may
  where
    some : (n : ℕ) → n ≤ length (to_keep x given) → q ≡ after_all p (take n (to_keep x given))
        → IsAfterSome p (to_keep x given) (mark_of x) q
    some n within is = (let marks = a.marks in
        record { count = n; within = within; is = is; enough = omega (arith, marks, marked) })

    by : (o : Option Group) → Settles o (pending_intents y) (pending_intents (guest_after_sync y))
        → BeforeOrAfter s o q → IsAfterSome p (to_keep x given) (mark_of x) q
    by None settled same = some a.count a.within (same ∙ a.is)
    by (Some g) settled (inl same) = some a.count a.within (same ∙ a.is)
    by (Some g) settled (inr done) =
        let one = next_done p a.count (to_keep x given) (pending_intents (guest_after_sync y))
        settled.0 (sym a.left ∙ settled.1) in
        some (suc a.count) one.0 (done ∙ ap (λ (v : Part). after v g) a.is
        ∙ ap (after (after_all p (take a.count (to_keep x given)))) (sym settled.2) ∙ sym one.1)

-- 2. All guests at a moment

there : {X : Type 0} (xs : List X) (n : ℕ) → n < length xs → (y : X) × (slice_get xs n ≡ Some y)
there xs n inside = elim (slice_get_cases xs n).1 [
  | inl found ↦ (found.0, found.2)
  | inr past ↦ (let beyond = past.0 in absurd (omega (arith, beyond, inside)))
]

module _ (old : List Guest) (parts settled : ℕ → Part) (given : ℕ → List Intent) (mid : List Guest)
    (fits : (g : ℕ) (y : Guest) → slice_get mid g ≡ Some y → Besides y.slot y.behind)
    (many : length mid ≡ length old) (ahead : (g : ℕ) (x y : Guest) → slice_get old g ≡ Some x
    → slice_get mid g ≡ Some y → IsAhead (parts g) x (given g) (settled g) y) where
  leaves_whole : (held : List Guest) (moment : DiskState)
      → ((g : ℕ) (y : Guest) → slice_get held g ≡ Some y → IsUnderWay mid g y)
      → length held ≡ length mid → EachStop settled held moment → LeavesWhole old parts given moment
  leaves_whole held moment way as_many each g x at c left =
      let below = slice_get_within old g x at in
      let y = there held g (omega (arith, below, as_many, many)) in
      let w = way g y.0 y.1 in
      let a = ahead_moved (parts g) x (given g) (settled g) w.was y.0 w.moved
      (ahead g x w.was at w.at) in
      let k = each g y.0 y.1 c left in (
        k.part,
        subst (λ r. Stands r c k.part) a.region k.stands,
        after_some (parts g) x (given g) (settled g) y.0 k.part a
            (besides w.was y.0 (fits g w.was w.at) w.moved) k.may k.marked,
      )
    where
      besides : (was y : Guest) → Besides was.slot was.behind → (y ≡ was)
          ⊎ (y ≡ guest_after_write was) → Besides y.slot y.behind
      besides was y b (inl same) = subst (λ (v : Guest). Besides v.slot v.behind) (sym same) b
      besides was y b (inr wrote) = subst (λ (v : Guest). Besides v.slot v.behind) (sym wrote)
          (write_keeps (λ o. Unit {0}) was (tt, tt, b)).2

  whole_now : (moment : DiskState) → EachStop settled mid moment
      → LeavesWhole old parts given moment
  whole_now moment each = leaves_whole mid moment (λ g y at.
      record { was = y; at = at; moved = inl refl }) refl each

  whole_meanwhile : (moment : DiskState) → EachStop settled (under_way mid) moment
      → LeavesWhole old parts given moment
  whole_meanwhile moment each =
      leaves_whole (under_way mid) moment (λ g y at. under_way_by_guest mid g y at)
      (as_many_under_way mid) each

-- with more given than it had
some_longer : (p : Part) (x : Guest) (before rest now : List Intent) (least : ℕ) (q : Part)
    → now ≡ before ++ rest → IsAfterSome p (to_keep x before) least q
    → IsAfterSome p (to_keep x now) least q
some_longer p x before rest now least q is s =
    let all : to_keep x now ≡ to_keep x before ++ rest = ap (λ l. pending_intents x ++ l) is
    ∙ sym (append_assoc (pending_intents x) before rest) in
    let within = s.within in
    let long = ap length all in
    let sum = length-append (to_keep x before) rest in
    record {
      count = s.count;
      within = omega (arith, within, long, sum);
      is = s.is ∙ ap (after_all p) (sym (take-append-le s.count (to_keep x before) rest within))
          ∙ ap (λ l. after_all p (take s.count l)) (sym all);
      enough = s.enough;
    }

whole_longer : (old : List Guest) (parts : ℕ → Part) (before now : ℕ → List Intent)
    → ((g : ℕ) → (rest : List Intent) × (now g ≡ before g ++ rest)) → (s : DiskState)
    → LeavesWhole old parts before s → LeavesWhole old parts now s
whole_longer old parts before now more s all g x at c left =
    let w = all g x at c left in
    let r = more g in
    (w.0, w.1, some_longer (parts g) x (before g) r.0 (now g) (mark_of x) w.0 r.1 w.2)

-- 3. The store

-- what is given to one guest
abbrev given_too : Intent → (ℕ → List Intent) → ℕ → List Intent
given_too i given g = if g == i.guest then given g ++ i ∷ [] else given g

given_more : (i : Intent) (given : ℕ → List Intent) (g : ℕ) → (rest : List Intent)
    × (given_too i given g ≡ given g ++ rest)
given_more i given g = by (g == i.guest)
  where
    by : (b : Bool) → (rest : List Intent) × ((if b then given g ++ i ∷ [] else given g) ≡ given g
        ++ rest)
    by true = (i ∷ [], refl)
    by false = ([], sym (append-nil (given g)))

room_of : (guests : List Guest) (g : ℕ) (x : Guest) → slice_get guests g ≡ Some x
    → is_free guests g ≡ true → has_room x ≡ true
unfolding is_free
room_of guests g x at free = ap is_free_of (sym at) ∙ free

next_at : (guests : List Guest) (i : Intent) (y : Guest) → slice_get guests i.guest ≡ Some y
    → i.group.first + 1 ≡ next_sequence guests i.guest → i.group.first + 1 ≡ y.mark + pending y + 1
unfolding next_sequence
next_at guests i y at next = next ∙ ap next_of at

module _ {D : Type 0} (shows : D → DiskState) (makes : D → DiskCall → D → Type 0) where
  besides_of : (parts : ℕ → Part) (guests : List Guest) (broken : Bool) (s : DiskState)
      → IsHeld parts guests broken s → (g : ℕ) (y : Guest) → slice_get guests g ≡ Some y
      → Besides y.slot y.behind
  besides_of parts guests broken s held g y at =
      (held.rows g y at s.seen (λ k known. refl)).1.ordered.besides

  pub keeps_begins : (s : KeyedStore D) → Keeps shows makes s s
  keeps_begins s = record {
    many = refl;
    len = refl;
    faithful = refl;
    later = omega arith;
    cause = λ broken. inl broken;
    front = header_still shows makes s.store.disk s.store.disk refl;
    reaches = λ parts held. record {
      given = λ g. [];
      settled = parts;
      held = held;
      ahead = λ g x y at also.
          (let same : x ≡ y = cc in
          subst (IsAhead (parts g) x [] (parts g)) same (ahead_begins (parts g) x));
      in_turn = λ g x at t. subst (λ l. IsInTurn g (parts g) x l (slice_get s.keys g))
          (sym (append-nil (pending_intents x))) t;
      moments = Still s.store.disk (whole_now s.store.guests parts parts (λ g. []) s.store.guests
          (besides_of parts s.store.guests s.store.broken (shows s.store.disk) held) refl
          (λ g x y at also. (let same : x ≡ y = cc in
          subst (IsAhead (parts g) x [] (parts g)) same (ahead_begins (parts g) x)))
          (shows s.store.disk) (stops parts s.store.guests (shows s.store.disk) (shows s.store.disk)
          s.store.broken held));
    };
  }

  -- an intent is given
  pub keeps_given : (old mid new : KeyedStore D) (i : Intent) → Keeps shows makes old mid
      → new.store.disk ≡ mid.store.disk → new.store.broken ≡ mid.store.broken
      → MayGive mid.store.guests i → LetsKey (slice_get mid.keys i.guest) i.group.key
      → Gives i mid.store.guests new.store.guests
      → new.keys ≡ slice_set mid.keys i.guest (Some i.group.key)
      → ((parts : ℕ → Part) → IsHeld parts mid.store.guests mid.store.broken (shows mid.store.disk)
      → IsHeld parts new.store.guests new.store.broken (shows new.store.disk))
      → Keeps shows makes old new
  keeps_given old mid new i k disk broken may lets gives keys keeps = record {
    many = gives.count ∙ k.many;
    len = ap (λ d. (shows d).len) disk ∙ k.len;
    faithful = ap (λ d. (shows d).faithful) disk ∙ k.faithful;
    later = (let before = k.later in let same = ap (λ d. (shows d).failures) disk in
        omega (arith, before, same));
    cause = λ is. subst (λ d. (old.store.broken ≡ true)
        ⊎ HasRisen (shows old.store.disk).failures (shows d).failures) (sym disk)
        (k.cause (sym broken ∙ is));
    front = λ known. subst (λ d. Within shows makes (FrontStays (shows old.store.disk))
        old.store.disk d) (sym disk) (k.front known);
    reaches = λ parts held. (let r = k.reaches parts held in record {
      given = given_too i r.given;
      settled = r.settled;
      held = keeps r.settled r.held;
      ahead = λ g x y at there. each parts r g x y at there (cases_eq g i.guest);
      in_turn = λ g x at t. turn parts r g x at t (cases_eq g i.guest);
      moments = subst (λ d. Within shows makes
          (LeavesWhole old.store.guests parts (given_too i r.given)) old.store.disk d) (sym disk)
          (within_weaker shows makes (LeavesWhole old.store.guests parts r.given)
          (LeavesWhole old.store.guests parts (given_too i r.given)) old.store.disk
          mid.store.disk
          (whole_longer old.store.guests parts r.given (given_too i r.given) (given_more i r.given))
          r.moments);
    });
  }
    where
      chosen : (given : ℕ → List Intent) (g : ℕ) → g ≡ i.guest → given g ++ i
          ∷ [] ≡ given_too i given g
      chosen given g same = rw (tells g i.guest same) refl
        where
          tells : (a b : ℕ) → a ≡ b → (a == b) ≡ true
          tells a b e = grind (arith, nat_tests)

      unchosen : (given : ℕ → List Intent) (g : ℕ) → (g ≡ i.guest → ⊥)
          → given g ≡ given_too i given g
      unchosen given g other = rw (tells g i.guest other) refl
        where
          tells : (a b : ℕ) → (a ≡ b → ⊥) → (a == b) ≡ false
          tells a b e = grind (arith, nat_tests)

      room : (x : Guest) → slice_get mid.store.guests i.guest ≡ Some x → has_room x ≡ true
      room x at = room_of mid.store.guests i.guest x at may.free

      each : (parts : ℕ → Part) (r : Reaches shows makes parts old mid) (g : ℕ) (x y : Guest)
          → slice_get old.store.guests g ≡ Some x → slice_get new.store.guests g ≡ Some y
          → (g ≡ i.guest) ⊎ (g ≡ i.guest → ⊥)
          → IsAhead (parts g) x (given_too i r.given g) (r.settled g) y
      each parts r g x y at now (inl own) =
          let below = slice_get_within old.store.guests g x at in
          let many = k.many in
          let z = there mid.store.guests g (omega (arith, below, many)) in
          let here : slice_get mid.store.guests i.guest ≡ Some z.0 =
          ap (slice_get mid.store.guests) (sym own) ∙ z.1 in
          let is : with_intent z.0 i ≡ y =
          (let put = gives.its_own z.0 here in let a = ap (slice_get new.store.guests) own in
          cc) in
          subst (IsAhead (parts g) x (given_too i r.given g) (r.settled g)) is
          (subst (λ l. IsAhead (parts g) x l (r.settled g) (with_intent z.0 i))
          (chosen r.given g own)
          (ahead_given (parts g) x (r.given g) (r.settled g) z.0 i (room z.0 here)
          (besides_of r.settled mid.store.guests mid.store.broken (shows mid.store.disk) r.held
          g z.0 z.1) (r.ahead g x z.0 at z.1)))
      each parts r g x y at now (inr other) =
          subst (λ l. IsAhead (parts g) x l (r.settled g) y) (unchosen r.given g other)
          (r.ahead g x y at (sym (gives.others g other) ∙ now))

      -- what the store says of the guest to which it may be given
      next : (y : Guest) → slice_get mid.store.guests i.guest ≡ Some y
          → i.group.first + 1 ≡ y.mark + pending y + 1
      next y at = next_at mid.store.guests i y at may.next

      fits : (y : Guest) → slice_get mid.store.guests i.guest ≡ Some y
          → GroupFits (region_of y).size i.group
      fits y at = (let f = may.fits in (subst (λ o. FitsOf o i) at f).inside)

      known : (o : Option (Option (List ℕ))) → LetsKey o i.group.key → (its : Option (List ℕ))
          × (o ≡ Some its)
      known None l = absurd l
      known (Some its) l = (its, refl)

      turn : (parts : ℕ → Part) (r : Reaches shows makes parts old mid) (g : ℕ) (x : Guest)
          → slice_get old.store.guests g ≡ Some x
          → IsInTurn g (parts g) x (pending_intents x) (slice_get old.keys g) → (g ≡ i.guest)
          ⊎ (g ≡ i.guest → ⊥)
          → IsInTurn g (parts g) x (to_keep x (given_too i r.given g)) (slice_get new.keys g)
      turn parts r g x at t (inl own) =
          let below = slice_get_within old.store.guests g x at in
          let many = k.many in
          let y = there mid.store.guests g (omega (arith, below, many)) in
          let here : slice_get mid.store.guests i.guest ≡ Some y.0 =
          ap (slice_get mid.store.guests) (sym own) ∙ y.1 in
          let before = r.in_turn g x at t in
          let marked = (r.held.rows g y.0 y.1 (shows mid.store.disk).seen (λ place known. refl)).1
          in
          let lets_it = subst (λ n. LetsKey (slice_get mid.keys n) i.group.key) (sym own) lets in
          let key = known (slice_get mid.keys i.guest) lets in
          let put : slice_get new.keys g ≡ Some (Some i.group.key) = ap (slice_get new.keys) own
          ∙ ap (λ l. slice_get l i.guest) keys
          ∙ get_set_same mid.keys i.guest key.0 (Some i.group.key) key.1 in
          let next_one = comes_next g (parts g) x y.0 (r.given g) (r.settled g) i
          (slice_get mid.keys g) (r.ahead g x y.0 at y.1) marked before (sym own)
          (next y.0 here) (fits y.0 here) lets_it in
          subst (λ l. IsInTurn g (parts g) x (to_keep x l) (slice_get new.keys g))
          (chosen r.given g own) (in_turn_given g (parts g) x (r.given g) i
          (slice_get mid.keys g) (slice_get new.keys g) before next_one put)
      turn parts r g x at t (inr other) =
          subst (λ l. IsInTurn g (parts g) x (to_keep x l) (slice_get new.keys g))
          (unchosen r.given g other)
          (subst (IsInTurn g (parts g) x (to_keep x (r.given g)))
          (sym (ap (λ l. slice_get l g) keys
          ∙ get_set_other mid.keys i.guest g (Some i.group.key) other)) (r.in_turn g x at t))

  risen : (a b c : DiskState) → a.failures ≤ b.failures → b.failures ≤ c.failures
      → HasRisen b.failures c.failures → HasRisen a.failures c.failures
  risen a b c first second (inl more) = inl (omega (arith, more, first))
  risen a b c first second (inr end) = ended (2 ^ 64) a.failures b.failures c.failures first second
      end

  -- a call of the disk
  module _ (effect : (a b : D) (call : DiskCall) → makes a call b → Effect (shows a) call (shows b))
      (old mid new : KeyedStore D) (result : Result Progress StoreFault)
      (k : Keeps shows makes old mid) (keys : new.keys ≡ mid.keys)
      (moves : Moves result mid.store.guests new.store.guests)
      (round : Round makes (planned mid.store.guests) mid.store.disk mid.store.guests result
      new.store.disk new.store.guests new.store.broken) (front : (shows mid.store.disk).faithful
      ≡ true → Within shows makes (FrontStays (shows mid.store.disk)) mid.store.disk new.store.disk)
      (any_moment : (parts : ℕ → Part) → IsHeld parts mid.store.guests mid.store.broken
      (shows mid.store.disk) → Within shows makes (EachStop parts (under_way mid.store.guests))
      mid.store.disk new.store.disk) (keeps : (parts : ℕ → Part)
      → IsHeld parts mid.store.guests mid.store.broken (shows mid.store.disk)
      → IsHeld (parts_after result mid.store.guests parts) new.store.guests new.store.broken
      (shows new.store.disk)) where
    each : (parts settled : ℕ → Part) (given : ℕ → List Intent)
        → IsHeld settled mid.store.guests mid.store.broken (shows mid.store.disk)
        → ((g : ℕ) (x y : Guest) → slice_get old.store.guests g ≡ Some x
        → slice_get mid.store.guests g ≡ Some y → IsAhead (parts g) x (given g) (settled g) y)
        → (g : ℕ) (x z : Guest) → slice_get old.store.guests g ≡ Some x
        → slice_get new.store.guests g ≡ Some z
        → IsAhead (parts g) x (given g) (parts_after result mid.store.guests settled g) z
    each parts settled given held ahead g x z at now =
        let below = slice_get_within old.store.guests g x at in
        let many = k.many in
        let y = there mid.store.guests g (omega (arith, below, many)) in
        by (settles result) y.0 y.1 (moves.each g y.0 z y.1 now)
      where
        by : (b : Bool) (y : Guest) → slice_get mid.store.guests g ≡ Some y → MovedBy b y z
            → IsAhead (parts g) x (given g)
            (if b then settled_by guest_settled (slice_get mid.store.guests g) (settled g) else
            settled g) z
        by true y is moved =
            let marked = (held.rows g y is (shows mid.store.disk).seen (λ at_place known. refl)).1
            in
            subst (λ o. IsAhead (parts g) x (given g) (settled_by guest_settled o (settled g)) z)
            (sym is)
            (subst (IsAhead (parts g) x (given g) (guest_settled y (settled g))) (sym moved)
            (ahead_synced (parts g) x (given g) (settled g) y (ahead g x y at is) marked))
        by false y is moved = ahead_moved (parts g) x (given g) (settled g) y z moved
            (ahead g x y at is)

    keeps_called : Keeps shows makes old new
    keeps_called =
        let shown = shown_round shows makes effect _ _ mid.store.disk mid.store.guests result
        new.store.disk new.store.guests new.store.broken round in
        let first = k.later in
        let second = shown.later in
        record {
          many = moves.count ∙ k.many;
          len = shown.len ∙ k.len;
          faithful = shown.faithful ∙ k.faithful;
          later = omega (arith, first, second);
          cause = λ broken. inr (risen (shows old.store.disk) (shows mid.store.disk)
              (shows new.store.disk) first second
              (failed_round shows makes effect result mid.store.disk mid.store.guests new.store.disk
              new.store.guests new.store.broken round broken));
          front = header_twice shows makes old.store.disk mid.store.disk new.store.disk k.faithful
              k.front front;
          reaches = λ parts held. (let r = k.reaches parts held in record {
            given = r.given;
            settled = parts_after result mid.store.guests r.settled;
            held = keeps r.settled r.held;
            ahead = each parts r.settled r.given r.held r.ahead;
            in_turn = λ g x at t. subst (λ l.
                IsInTurn g (parts g) x (to_keep x (r.given g)) (slice_get l g)) (sym keys)
                (r.in_turn g x at t);
            moments = within_more shows makes (LeavesWhole old.store.guests parts r.given)
                old.store.disk mid.store.disk new.store.disk r.moments
                (within_weaker shows makes (EachStop r.settled (under_way mid.store.guests))
                (LeavesWhole old.store.guests parts r.given) mid.store.disk new.store.disk
                (whole_meanwhile old.store.guests parts r.settled r.given mid.store.guests
                (besides_of r.settled mid.store.guests mid.store.broken (shows mid.store.disk)
                r.held) k.many r.ahead) (any_moment r.settled r.held));
          });
        }

  -- or none, where one has failed before
  pub keeps_advanced : (effect : (a b : D) (call : DiskCall) → makes a call b
      → Effect (shows a) call (shows b)) (old mid new : KeyedStore D)
      (result : Result Progress StoreFault) → Keeps shows makes old mid → new.keys ≡ mid.keys
      → (mid.store.broken ≡ true → new.store ≡ mid.store)
      → Moves result mid.store.guests new.store.guests
      → (mid.store.broken ≡ false → Round makes (planned mid.store.guests) mid.store.disk
      mid.store.guests result new.store.disk new.store.guests new.store.broken)
      → ((shows mid.store.disk).faithful ≡ true
      → Within shows makes (FrontStays (shows mid.store.disk)) mid.store.disk new.store.disk)
      → ((parts : ℕ → Part) → IsHeld parts mid.store.guests mid.store.broken (shows mid.store.disk)
      → Within shows makes (EachStop parts (under_way mid.store.guests)) mid.store.disk
      new.store.disk)
      → ((parts : ℕ → Part) → IsHeld parts mid.store.guests mid.store.broken (shows mid.store.disk)
      → IsHeld (parts_after result mid.store.guests parts) new.store.guests new.store.broken
      (shows new.store.disk))
      → Keeps shows makes old new
  keeps_advanced effect old mid new result k keys refused moves round front any_moment keeps =
      by mid.store.broken refl
    where
      by : (b : Bool) → mid.store.broken ≡ b → Keeps shows makes old new
      by true is = subst (Keeps shows makes old)
          (sym (ap₂ (λ (s : StoreState D) (l : List (Option (List ℕ))).
          record { store = s; keys = l }) (refused is) keys)) k
      by false is = keeps_called effect old mid new result k keys moves (round is) front any_moment
          keeps
