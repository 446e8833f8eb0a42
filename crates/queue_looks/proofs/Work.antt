-- What a Take, a Give, a call of the store and a look leave to do, until a guest's reply may leave.
use Rattle.std.proofs.Common.{◌≡◌, ◌<◌, ◌≤◌, ℕ, ◌+◌, Bool, true, false, List, [], ◌∷◌, Option, Some}
use Rattle.std.proofs.Common.{None, length, drop, refl, ap, sym, subst, ◌∙◌, arith, Result, Ok, Err}
use Rattle.queue_looks.proofs.Common.{◌==◌, if◌then◌else◌, slice_get, slice_set, nat_le, Request}
use Rattle.queue_looks.proofs.Common.{sequence, DiskState, DiskCall, Guest, left_of, called}
use Rattle.queue_looks.proofs.Common.{AllEmpty, mark_of, get_set_same, get_set_other}
use Rattle.queue_looks.proofs.Common.{sequence_of_all, guest_of, waiting_of, with_turn, GuestState}
use Rattle.queue_looks.proofs.Common.{Held, IsSound, BoardState, guests, in_place, Marks, report_of}
use Rattle.queue_looks.proofs.Common.{did_answer, as_many, at_each, own, there_is, turned}
use Rattle.queue_looks.proofs.Common.{other_guest, IsLate, Waits, Leaves, work_of, slice_get_within}
use Rattle.queue_looks.proofs.Common.{Progress, Synced, Idle, StoreFault, GoesBy, GoesOn, Hears}
use Rattle.queue_looks.proofs.Common.{IsListened, book_heard, is_broken, IsCalmGuest, nat_tests}
use Rattle.queue_looks.proofs.Common.{held_since, Wrote, length-drop, MovedBy, settles, given_at}
use Rattle.queue_looks.proofs.Common.{has_room, with_intent, given, given_of, is_free, is_free_of}
use Rattle.queue_looks.proofs.Common.{given_adds, first_of, is_share, next_intent, share_moved}
use Rattle.queue_looks.proofs.Common.{first_intent, took, collected, Take, Collect, GivesWhere}
use Rattle.queue_looks.proofs.Common.{TakesInto, CollectsInto, is_share_of, may_give_it, WritesOn}
use Rattle.queue_looks.proofs.Common.{Collected, between_calls, calls_of, todo_of, waiting_calls}
use Rattle.intent_slots.specs.Payload.{Intent}
use Rattle.flusher.specs.declared.slot.Slot.{Slot}
use Rattle.flusher.specs.Slot.{is_empty}
use Rattle.flusher.proofs.Lookups.{given_mark}
use Rattle.board.specs.Link.{due, entries_of}
use Rattle.board.specs.Steps.{Answer}
use Rattle.board.proofs.Doing.{full_at}
use Rattle.queue_looks.proofs.Settled.{Same, also_there, runner_in, runner_update, state_of, still}
use Rattle.queue_looks.proofs.Settled.{stored_same, broken_waits, same_waits, synced_same}
use Rattle.queue_looks.proofs.Settled.{waiting_heard, below}
use Rattle.queue_looks.proofs.Ending.{heard_at, heard_badly, heard_idle, heard_lowers, heard_well}

-- 1. Take

-- what a Take leaves: what is late stays so, no more is to do, and nothing waits where the place
-- stays empty
pub record IsTaken {D : Type 0} (g : ℕ) (b b' : BoardState D) : Type 0 where
  pub same : Same b b'
  pub late : IsLate g b → IsLate g b'
  pub work : todo_of g b' ≤ todo_of g b
  pub rest : slice_get b'.intents g ≡ Some None → waiting_of (slice_get (guests b') g) ≡ []

not_taken : {D : Type 0} (g : ℕ) (b b' : BoardState D) → b' ≡ b
    → (slice_get b.intents g ≡ Some None → waiting_of (slice_get (guests b) g) ≡ [])
    → IsTaken g b b'
not_taken g b b' is rest =
    subst (IsTaken g b) (sym is) (record {
      same = still b b refl;
      late = λ late. late;
      work =
          omega arith;
      rest = rest;
    })

nothing_first : (g : ℕ) (x : GuestState) → first_intent g x ≡ None → x.waiting ≡ []
nothing_first g x is = grind arith

-- an intent of several requests adds fewer calls than each alone
first_rest : (g : ℕ) (x : GuestState) (i : Intent) → first_intent g x ≡ Some i
    → calls_of i + waiting_calls (drop 4 x.waiting) ≤ waiting_calls x.waiting
first_rest g x i is = grind arith

pub take_work : {D : Type 0} (shows : D → DiskState) (g : ℕ) (x : GuestState)
    (o : Option (Option Intent)) (answer : Answer) (b b' : BoardState D) → IsSound shows b
    → slice_get (guests b) g ≡ Some x → slice_get b.intents g ≡ o
    → TakesInto g o answer b b' → IsTaken g b b'
take_work shows g x None answer b b' sound at place takes =
    not_taken g b b' takes.1 (λ empty. absurd cc)
take_work shows g x (Some (Some i)) answer b b' sound at place takes =
    not_taken g b b' takes.1 (λ empty. absurd (let no = sym place ∙ empty in cc))
take_work {D = D} shows g x (Some None) answer b b' sound at place takes =
    by (next_intent b.book b.shares g) refl
  where
    share : is_share b.book b.shares g ≡ true
    share = is_share_of shows sound.config sound.bases sound.accepted sound.parts b sound.linked g
        None place

    next_is : next_intent b.book b.shares g ≡ first_intent g x
    next_is = ap (λ (c : Bool). if c then first_of g (guest_of b.book g) else None) share
        ∙ ap (first_of g) at

    by : (next : Option Intent) → next_intent b.book b.shares g ≡ next → IsTaken g b b'
    by None none = not_taken g b b' (takes.1 ∙ rw none refl) (λ empty. ap waiting_of at
        ∙ nothing_first g x (sym next_is ∙ none))
    by (Some i) some =
        let now : BoardState D = record b {
          book = with_turn b.book (Take g);
          shares =
              share_moved b.shares g (Some i);
          intents = slice_set b.intents g (Some i);
        } in
        let is : b' ≡ now = takes.1 ∙ rw some refl in
        let y = also_there (guests b) (guests now) g x at (as_many b.book (Take g)) in
        let u = own b.book (Take g) g took (λ k v. refl) y.0 y.1 in
        let same : u.0 ≡ x = cc in
        let taken : y.0 ≡ took x = u.2 ∙ ap took same in
        let broken = ap (λ s. s.broken) (state_of b.book (Take g)) in
        let full : slice_get (slice_set b.intents g (Some i)) g ≡ Some (Some i) =
        get_set_same b.intents g None (Some i) place in
        let more : calls_of i + waiting_calls (drop 4 x.waiting) ≤ waiting_calls x.waiting =
        first_rest g x i (sym next_is ∙ some) in
        subst (IsTaken g b) (sym is) (record {
          same = grind (arith, turned, as_many, took_settled, runner_in, state_of, runner_update);
          late = λ late. record {
            whole = broken ∙ late.whole;
            late = λ v there.
                (let v_is : v ≡ took x = (let c = taken in cc) in
                subst (λ q. q.settled < sequence q.core.partition) (sym v_is) (late.late x at));
          };
          work = grind (arith, full, more, at, place, (y.1), taken);
          rest = λ empty. absurd (let no = sym full ∙ empty in cc);
        })
      where
        took_settled : (n k : ℕ) (v : GuestState) → (if n == k then took v else v).settled
            ≡ v.settled
        took_settled n k v = grind arith

-- 2. Give

empty_slot : (slot : Option Slot) → is_empty slot ≡ true → slot ≡ None
empty_slot slot is = grind arith

-- a guest whose slots are empty has room, and one that was given an intent has a slot that isn't
has_room_empty : (z : Guest) → is_empty z.slot ≡ true → is_empty z.behind ≡ true → has_room z ≡ true
has_room_empty z one two = grind arith

given_is_not_empty : (z : Guest) (i : Intent) (slot : Option Slot)
    → is_empty (given_at z i slot).slot ≡ true → ⊥
given_is_not_empty z i slot is = grind arith

-- what a Give leaves: as much to do; and where all slots are empty it had nothing to give, and
-- nothing changed
pub record IsGiven {D : Type 0} (g : ℕ) (b b' : BoardState D) : Type 0 where
  pub same : Same b b'
  pub late : IsLate g b → IsLate g b'
  pub work : todo_of g b' ≡ todo_of g b
  pub rest : AllEmpty b'.store.guests → (b' ≡ b) × (in_place (slice_get b.intents g) ≡ None)

not_given : {D : Type 0} (g : ℕ) (b b' : BoardState D) → b' ≡ b
    → (AllEmpty b.store.guests → in_place (slice_get b.intents g) ≡ None) → IsGiven g b b'
not_given g b b' is rest =
    subst (IsGiven g b) (sym is) (record {
      same = still b b refl;
      late = λ late. late;
      work = refl;
      rest = λ empty. (refl, rest empty);
    })

pub give_work : {D : Type 0} (shows : D → DiskState) (g : ℕ) (free : Bool) (o : Option Intent)
    (answer : Answer) (b b' : BoardState D) → IsSound shows b → g < length b.store.guests
    → is_free b.store.guests g ≡ free → in_place (slice_get b.intents g) ≡ o
    → GivesWhere g free o answer b b' → IsGiven g b b'
unfolding is_free given
give_work shows g false o answer b b' sound few free place gives =
    not_given g b b' gives.1 (λ empty. absurd (
    let z = there_is b.store.guests g few in
    let yes = empty g z.0 z.1 in
    let room = has_room_empty z.0 yes.0 yes.1 in cc))
give_work shows g true None answer b b' sound few free place gives =
    not_given g b b' gives.1 (λ empty. place)
give_work {D = D} shows g true (Some i) answer b b' sound few free place gives =
    let full = full_at (slice_get b.intents g) i (sym place) in
    let may = may_give_it shows sound.config sound.bases sound.accepted sound.parts b sound.linked g
    i full free in
    let z = there_is b.store.guests g few in
    let room : has_room z.0 ≡ true = ap is_free_of (sym z.1) ∙ free in
    let at : slice_get b.store.guests i.guest ≡ Some z.0 = ap (slice_get b.store.guests) may.0
    ∙ z.1 in
    let held : given b.store.guests i ≡ slice_set b.store.guests i.guest (with_intent z.0 i) =
    ap (given_of b.store.guests i) at in
    let now : BoardState D = record b {
      store = record b.store { guests = given b.store.guests i };
      intents = slice_set b.intents g None;
    } in
    let left : left_of (given b.store.guests i) ≡ left_of b.store.guests + calls_of i =
    given_adds b.store.guests i z.0 at room in
    subst (IsGiven g b) (sym gives.1) (record {
      same = stored_same b now refl (λ k y there.
          given_marks b.store.guests i z.0 at k y (ap (λ l. slice_get l k) (sym held) ∙ there)) refl
          refl refl refl refl;
      late = λ late. record { whole = late.whole; late = late.late };
      work = grind (arith, left, place, (get_set_same b.intents g (Some i) None full));
      rest = λ rests. absurd (given_is_not_empty z.0 i z.0.slot
          (rests i.guest (with_intent z.0 i) (ap (λ l. slice_get l i.guest) held
          ∙ get_set_same b.store.guests i.guest z.0 (with_intent z.0 i) at)).0);
    })
  where
    -- an intent that is given moves no mark
    given_marks : (held : List Guest) (i : Intent) (z : Guest) → slice_get held i.guest ≡ Some z
        → (k : ℕ) (y' : Guest) → slice_get (slice_set held i.guest (with_intent z i)) k ≡ Some y'
        → (y : Guest) × (slice_get held k ≡ Some y) × (mark_of y' ≡ mark_of y)
    given_marks held i z some k y' now = grind (
      arith,
      at_each,
      get_set_same,
      given_mark,
      get_set_other,
    )

-- 3. Once all slots are empty and nothing waits, all is settled

empty_entries : (rs : List Request) → entries_of rs ≡ [] → rs ≡ []
empty_entries [] is = refl
empty_entries (r ∷ rs) is = absurd cc

pub settled_all_at_rest : {D : Type 0} (shows : D → DiskState) (g : ℕ) (x : GuestState)
    (b : BoardState D) → IsSound shows b → slice_get (guests b) g ≡ Some x → AllEmpty b.store.guests
    → in_place (slice_get b.intents g) ≡ None → x.waiting ≡ [] → (z : Guest)
    × (slice_get b.store.guests g ≡ Some z) × (mark_of z ≡ sequence x.core.partition)
settled_all_at_rest shows g x b sound at empty place waits =
    let t = sound.linked.each g x at in
    let l = t.link in
    let both = empty g t.stored t.in_store in
    let slot = empty_slot t.stored.slot both.0 in
    let behind = empty_slot t.stored.behind both.1 in
    let none : t.intent ≡ None = ap in_place (sym t.in_place) ∙ place in
    let all : sequence x.core.partition ≡ sequence (sound.bases g) + length (sound.accepted g) =
    ap sequence l.partition ∙ sequence_of_all (sound.bases g) (sound.accepted g) l.in_turn in
    let nothing : due t.stored t.intent x ≡ [] = rw (slot, behind, none, waits) refl in
    let rest = ap length (empty_entries (drop l.stored (sound.accepted g)) (l.rest ∙ nothing)) in
    let long = length-drop l.stored (sound.accepted g) in
    (t.stored, t.in_store, omega arith)

-- One round of Take, Give, and a call of the store: less is left to do.

moved_mark : (y y' : Guest) → MovedBy false y y' → mark_of y' ≡ mark_of y
moved_mark y y' x2 = grind arith

work_less : {D : Type 0} (g : ℕ) (b b' : BoardState D) → is_broken b ≡ false
    → (is_broken b' ≡ false → todo_of g b' < todo_of g b) → work_of g b' < work_of g b
work_less g b b' whole less = grind arith

module _ {D : Type 0} (shows : D → DiskState) (makes : D → DiskCall → D → Type 0) (g : ℕ)
    (start : BoardState D) (reply : Held) where
  abbrev W : BoardState D → Type 0
  W b = Waits shows g start reply b

  -- a call of the store, of which the book hears
  pub record Moved (b b' : BoardState D) : Type 0 where
    pub waits : W b'
    pub less : (AllEmpty b.store.guests → ⊥) → is_broken b' ≡ false → todo_of g b' < todo_of g b

  moved : (went : Bool) (b b' : BoardState D) → W b → IsLate g b → IsSound shows b'
      → GoesOn shows makes went b b' → Moved b b'
  moved went b b' w late sound goes = by h.progress refl
    where
      h : Hears shows makes went b b'
      h = subst (λ k. GoesBy shows makes k went b b') late.whole goes

      now : (p : Result Progress StoreFault) → h.progress ≡ p
          → b' ≡ record b { store = h.store; report = None; book = book_heard b.book b.shares p }
      now p is = heard_at shows makes went b b' late.whole h p is

      -- a call that tells the book nothing
      quiet : (p : Progress) → h.progress ≡ Ok p → settles (Ok p) ≡ false
          → Same b (record b { store = h.store; report = None })
      quiet p is not =
          let broken = heard_well shows makes went b b' late.whole h p is in
          stored_same b (record b { store = h.store; report = None }) refl
          (λ k y' at. (let y = also_there h.store.guests b.store.guests k y' at (sym h.moves.count)
          in (
            y.0,
            y.1,
            moved_mark y.0 y' (subst (λ s. MovedBy s y.0 y') (ap settles is ∙ not)
                (h.moves.each k y.0 y' y.1 at)),
          )))
          (broken ∙ sym (w.broken ∙ late.whole)) refl refl refl (sym w.report)

      fewer : (p : Result Progress StoreFault) → h.progress ≡ p → called p ≡ true
          → waiting_of (slice_get (guests b') g) ≡ waiting_of (slice_get (guests b) g)
          → todo_of g b' < todo_of g b
      fewer p is made waiting =
          let left = heard_lowers shows makes went b b' late.whole h (ap called is ∙ made) in
          let store = ap (λ v. left_of v.store.guests) h.is in
          let intents = ap (λ v. between_calls (in_place (slice_get v.intents g))) h.is in
          let waits = ap waiting_calls waiting in
          omega arith

      by : (p : Result Progress StoreFault) → h.progress ≡ p → Moved b b'
      by (Ok Wrote) is = (let to = now (Ok Wrote) is in record {
        waits = same_waits shows g start reply b b' w
            (subst (Same b) (sym to) (quiet Wrote is refl)) sound;
        less = λ busy known. fewer (Ok Wrote) is refl
            (ap (λ v. waiting_of (slice_get (guests v) g)) to);
      })
      by (Ok Idle) is = record {
        waits = same_waits shows g start reply b b' w
            (subst (Same b) (sym (now (Ok Idle) is)) (quiet Idle is refl)) sound;
        less = λ busy known. absurd (busy (heard_idle shows makes went b b' late.whole h is));
      }
      by (Ok (Synced told)) is =
          let to = now (Ok (Synced told)) is in
          let before : IsSound shows (record b { store = h.store; report = Some (Marks told) }) =
          subst (λ p. IsSound shows (record b { store = h.store; report = report_of p })) is
          (h.between w.sound) in
          let broken = heard_well shows makes went b b' late.whole h (Synced told) is in
          let same = synced_same shows b h.store told before w.report (broken
          ∙ sym (w.broken ∙ late.whole)) (subst (IsSound shows) to sound) in
          record {
            waits = same_waits shows g start reply b b' w (subst (Same b) (sym to) same) sound;
            less = λ busy known. fewer (Ok (Synced told)) is refl
                (ap (λ v. waiting_of (slice_get (guests v) g)) to
                ∙ waiting_heard shows b h.store told before g);
          }
      by (Err e) is =
          let to = now (Err e) is in
          let broken = heard_badly shows makes went b b' late.whole h e is in
          let waits = broken_waits shows g start reply b h.store w late broken
          (subst (IsSound shows) to sound) in
          record {
            waits = subst W (sym to) waits;
            less = λ busy known. absurd (let same = (subst W (sym to) waits).broken in cc);
          }

  -- the whole round
  pub writes : (b0 b1 b2 b3 : BoardState D) (a1 a2 : Answer) (went : Bool) → W b0 → IsLate g b0
      → IsSound shows b1 → IsSound shows b2 → IsSound shows b3
      → TakesInto g (slice_get b0.intents g) a1 b0 b1
      → GivesWhere g (is_free b1.store.guests g) (in_place (slice_get b1.intents g)) a2 b1 b2
      → (IsListened b2 → GoesOn shows makes went b2 b3) → WritesOn shows g start reply b0 b3
  writes b0 b1 b2 b3 a1 a2 went w late s1 s2 s3 takes gives goes =
      let taken = take_work shows g w.guest (slice_get b0.intents g) a1 b0 b1 w.sound w.there refl
      takes in
      let w1 = same_waits shows g start reply b0 b1 w taken.same s1 in
      let late1 = taken.late late in
      let t = s1.linked.each g w1.guest w1.there in
      let given = give_work shows g (is_free b1.store.guests g) (in_place (slice_get b1.intents g))
      a2 b1 b2 s1 (slice_get_within b1.store.guests g t.stored t.in_store) refl refl gives in
      let w2 = same_waits shows g start reply b1 b2 w1 given.same s2 in
      let late2 = given.late late1 in
      let m = moved went b2 b3 w2 late2 s3
      (goes (record { report = w2.report; broken = w2.broken })) in
      let busy : AllEmpty b2.store.guests → ⊥ = λ empty.
      grind (
        arith,
        also_there,
        empty,
        guests,
        in_place,
        settled_all_at_rest,
        slice_get,
        waiting_of,
      ) in
      record {
        waits = m.waits;
        less =
            work_less g b0 b3 late.whole (λ known. (let less = m.less busy known in omega arith));
      }

-- A look for the reply that a guest waits for.

module _ {D : Type 0} (shows : D → DiskState) (g : ℕ) (start : BoardState D) (reply : Held)
    (b b' : BoardState D) (w : Waits shows g start reply b) where
  empty : slice_get b.dones g ≡ Some None
  empty = grind (arith, also_there)

  -- a reply that isn't due needs more than is settled, of a board that isn't broken
  is_late : nat_le w.held.done.need w.guest.settled ≡ false → IsLate g b
  is_late is = grind arith

  abbrev now : BoardState D
  now = record b {
    book = with_turn b.book (Collect g);
    dones =
        slice_set b.dones g (Some w.held.done);
  }

  -- one that is due lies in its place then
  leaves : nat_le w.held.done.need w.guest.settled ≡ true → IsSound shows now
      → Leaves shows g start reply now
  leaves is sound = record {
    sound = sound;
    done = w.held.done;
    given = ap (λ h. h.done) (w.same ∙ ap (λ k. held_since (is_broken start) k reply)
        (sym same_broken));
    quiet = at_each {P = λ k. (x : GuestState) → slice_get (guests now) k ≡ Some x
        → IsCalmGuest (is_broken now) x} g
        (λ y at. grind (
          arith,
          (own b.book (Collect g) g collected (λ k v. refl) y at),
          (below shows b g w.guest w.sound w.there),
          (under w.held.done.need w.guest.settled is),
          same_broken,
        ))
        (λ k other x at. grind (
          arith,
          (w.others k x other (other_guest b.book (Collect g) g collected (λ m v. refl) k other x
              at)),
          same_broken,
        ));
    dones = ap (λ l. slice_set l g (Some w.held.done)) w.dones;
    replies = λ k o at. w.replies k o (ap (λ l. slice_get l k) w.dones ∙ at);
    report = w.report;
    broken = w.broken ∙ sym same_broken;
    stays = grind (arith, runner_in, state_of, runner_update, same_broken);
  }
    where
      same_broken : is_broken now ≡ is_broken b
      same_broken = ap (λ s. s.broken) (state_of b.book (Collect g))

      under : (n m : ℕ) → nat_le n m ≡ true → n ≤ m
      under n m least = grind (arith, nat_tests)

  pub collects : (did : Bool) → CollectsInto g (slice_get b.dones g) (did_answer did) b b'
      → IsSound shows b' → Collected did shows g start reply b b'
  collects did into sound = grind (arith, empty, leaves)
