-- The calls that a store has before it, one by one.
use Rattle.std.proofs.Common.{◌≡◌, ◌<◌, ◌≤◌, ◌+◌, Bool, true, false, Option, Some, Result, ℕ, zero}
use Rattle.std.proofs.Common.{suc, List, [], ◌∷◌, map, refl, ap, sym, ◌∙◌, arith}
use Rattle.flusher.proofs.Common.{slice_get, slice_set, if◌then◌else◌, list_any, position-Some}
use Rattle.flusher.proofs.Common.{slice_get_within, get_or_from_slice_get, DiskCall, Entry, Group}
use Rattle.flusher.proofs.Common.{Intent, Phase, Open, Guest, Slot, Plan, WriteOf, SyncAll}
use Rattle.flusher.proofs.Common.{Progress, Synced, StoreFault, has_write, open_after, is_empty}
use Rattle.flusher.proofs.Common.{slot_writes, after_write, turn_of, moved_in, with_slots, given_at}
use Rattle.flusher.proofs.Common.{with_intent, guest_has_write, guest_awaits, guest_after_write}
use Rattle.flusher.proofs.Common.{guest_after_sync, marks_of, plan_at, planned, AllEmpty, Ends}
use Rattle.flusher.proofs.Common.{Round, given_of, Turn}
use Rattle.std.specs.Prelude.{length}
use Rattle.flusher.specs.Phase.{written}
use Rattle.flusher.specs.Pair.{has_turn}
use Rattle.flusher.specs.Store.{given}
use Rattle.flusher.specs.CallsLeft.{calls_left, slot_left, guest_left, left_of, called}
use Rattle.flusher.specs.Laws.{GivenAdds, NoneLeftIsEmpty}

-- 1. A slot

open_lowers : (i : Group) (k : ℕ) (o : Option Entry) → slice_get i.entries k ≡ o
    → calls_left (open_after k o) i < calls_left (Open k) i
open_lowers i k o is = grind (arith, slice_get_within)

phase_write_lowers : (phase : Phase) (i : Group) → has_write phase ≡ true
    → calls_left (written phase i) i < calls_left phase i
phase_write_lowers phase i has = grind (arith, open_lowers)

write_lowers : (slot : Option Slot) → slot_writes slot ≡ true → slot_left (after_write slot)
    < slot_left slot
write_lowers slot has = grind (arith, phase_write_lowers)

-- 2. All guests

turn_lowers : (t : Turn) (x : Guest) → turn_of x ≡ t → has_turn t ≡ true → guest_left (moved_in t x)
    < guest_left x
turn_lowers t x is has = grind (arith, write_lowers)

guest_write_lowers : (x : Guest) → guest_has_write x ≡ true → guest_left (guest_after_write x)
    < guest_left x
guest_write_lowers x has = turn_lowers (turn_of x) x refl has

guest_sync_adds_none : (x : Guest) → guest_left (guest_after_sync x) ≤ guest_left x
guest_sync_adds_none x = grind arith

guest_sync_lowers : (x : Guest) → guest_awaits x ≡ true → guest_left (guest_after_sync x)
    < guest_left x
guest_sync_lowers x waits = grind arith

left_of-set : (xs : List Guest) (g : ℕ) (x y : Guest) → slice_get xs g ≡ Some x
    → left_of (slice_set xs g y) + guest_left x ≡ left_of xs + guest_left y
unfolding left_of
left_of-set (z ∷ xs) (suc g) x y at = (let rest = left_of-set xs g x y at in omega arith)
left_of-set xs g x y at = grind arith

left_of-sync : (xs : List Guest) → left_of (map guest_after_sync xs) ≤ left_of xs
unfolding left_of
left_of-sync [] = omega arith
left_of-sync (x ∷ xs) = (let first = guest_sync_adds_none x in let rest = left_of-sync xs in
    omega arith)

left_of-sync-lower : (xs : List Guest) → list_any guest_awaits xs ≡ true
    → left_of (map guest_after_sync xs) < left_of xs
unfolding left_of
left_of-sync-lower [] waits = absurd (cc)
left_of-sync-lower (x ∷ xs) waits = of (guest_awaits x) refl (left_of-sync-lower xs)
  where
    of : (b : Bool) → guest_awaits x ≡ b
        → (list_any guest_awaits xs ≡ true → left_of (map guest_after_sync xs) < left_of xs)
        → left_of (map guest_after_sync (x ∷ xs)) < left_of (x ∷ xs)
    of true is later = (let first = guest_sync_lowers x is in let rest = left_of-sync xs in
        omega arith)
    of false is later = (
        let waits_later : list_any guest_awaits xs ≡ true = cc in
        let first = guest_sync_adds_none x in
        omega arith)

-- 3. A call that succeeds

plan_write : (o : Option ℕ) (b : Bool) (g : ℕ) → plan_at o b ≡ WriteOf g → o ≡ Some g
plan_write o b g is = grind arith

write_of : (old : List Guest) (g : ℕ) (x : Guest) → planned old ≡ WriteOf g
    → slice_get old g ≡ Some x → left_of (slice_set old g (guest_after_write x)) < left_of old
write_of old g x plan at =
    let first = position-Some guest_has_write old g x (plan_write _ _ g plan) in
    let has = sym (ap guest_has_write (get_or_from_slice_get old g x x at)) ∙ first.1 in
    let fewer = guest_write_lowers x has in
    let whole = left_of-set old g x (guest_after_write x) at in
    omega arith

module _ {D : Type 0} (makes : D → DiskCall → D → Type 0) (od : D) (old : List Guest)
    (result : Result Progress StoreFault) (nd : D) (new : List Guest) (broken : Bool) where
  sync_all : (ok : Bool) → planned old ≡ SyncAll
      → new ≡ (if ok then map guest_after_sync old else old)
      → Ends ok (Synced (marks_of new)) result broken → called result ≡ true
      → left_of new < left_of old
  sync_all ok plan slots ends made = grind (arith, left_of-sync-lower)

  lowers_by_plan : (p : Plan) → planned old ≡ p → Round makes p od old result nd new broken
      → called result ≡ true → left_of new < left_of old
  lowers_by_plan p plan r made = grind (arith, sync_all, write_of)

  pub round_lowers : Round makes (planned old) od old result nd new broken → called result ≡ true
      → left_of new < left_of old
  round_lowers = lowers_by_plan (planned old) refl

-- 4. An intent that is given

room_left : (x : Guest) (i : Intent) (slot behind : Option Slot)
    → (if x.paired then is_empty behind else is_empty slot) ≡ true
    → guest_left (given_at (with_slots x slot behind) i slot)
    ≡ guest_left (with_slots x slot behind) + (length i.group.entries + 8)
room_left x i slot behind room = grind arith

pub given_adds : GivenAdds
unfolding given
given_adds guests i x at room =
    let whole = left_of-set guests i.guest x (with_intent x i) at in
    let more = room_left x i x.slot x.behind room in
    let is : given guests i ≡ slice_set guests i.guest (with_intent x i) =
    ap (given_of guests i) at in
    let after = ap left_of is in
    omega arith

-- 5. None left

empty_of : (slot : Option Slot) → slot_left slot ≡ 0 → is_empty slot ≡ true
empty_of slot none = grind arith

none_of : (slot : Option Slot) → is_empty slot ≡ true → slot_left slot ≡ 0
none_of slot is = grind arith

empty_where_none : (xs : List Guest) → left_of xs ≡ 0 → AllEmpty xs
unfolding left_of
empty_where_none [] none zero x at = absurd (cc)
empty_where_none [] none (suc g) x at = absurd (cc)
empty_where_none (z ∷ xs) none zero x at = grind arith
empty_where_none (z ∷ xs) none (suc g) x at =
    (let rest : left_of xs ≡ 0 = omega arith in empty_where_none xs rest g x at)

none_where_empty : (xs : List Guest) → AllEmpty xs → left_of xs ≡ 0
unfolding left_of
none_where_empty [] all = refl
none_where_empty (z ∷ xs) all = (
    let both = all 0 z refl in
    let first = none_of z.slot both.0 in
    let second = none_of z.behind both.1 in
    let rest = none_where_empty xs (λ g x at. all (suc g) x at) in
    omega arith)

pub none_left_is_empty : NoneLeftIsEmpty
none_left_is_empty guests = (empty_where_none guests, none_where_empty guests)
